-- `Multiple::add_to_known`: the multiple was added to the known symbols before `i`.
use Rattle.tables.specs.parts.RowsAdded.{MultipleAdded}
use Rattle.tables.proofs.multiples.Multiple.add_to_known.Given as goal

abbrev pub invariant-loop-i : goal.invariant-loop-i
invariant-loop-i l = MultipleAdded l.self.field.now.q l.self.v 0 l.i l.self.row.now l.initial.area l.area
