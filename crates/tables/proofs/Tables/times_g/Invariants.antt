-- `Tables::times_g`: the loop makes the sum over the rows of G_j.
use Rattle.field.specs.parts.Operations.{Is}
use Rattle.tables.proofs.Places.{product_sum}
use Rattle.tables.proofs.Tables.times_g.Given as goal

abbrev pub invariant-loop-r : goal.invariant-loop-r
invariant-loop-r l = Is l.self.setting.q l.sum (product_sum l.self.setting.q l.self.rows l.block l.p.n l.powers l.j l.i l.r)
