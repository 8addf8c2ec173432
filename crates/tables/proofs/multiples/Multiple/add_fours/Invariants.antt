-- `Multiple::add_fours`: the multiple was added to the first parts of four symbols.
use Prim.Native.Nat.{◌*◌}
use Rattle.tables.specs.parts.RowsAdded.{MultipleAdded}
use Rattle.tables.proofs.multiples.Multiple.add_fours.Given as goal

abbrev pub invariant-loop-part : goal.invariant-loop-part
invariant-loop-part l = MultipleAdded l.self.field.now.q l.self.v 0 (4 * l.part) l.self.row.now l.initial.area l.area
