-- `Combination::symbol`: the loop makes the sum over j of x_(l-j) × G_j.
use Rattle.field.specs.parts.Operations.{Is}
use Rattle.tables.proofs.Places.{combination_sum}
use Rattle.tables.proofs.combination.Combination.symbol.Given as goal

abbrev pub invariant-loop-j : goal.invariant-loop-j
invariant-loop-j l =
    let p = l.self.tables.now.setting in
    Is p.q l.sum (combination_sum p l.self.information.now l.self.l l.i l.j)
