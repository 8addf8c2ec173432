-- `Combination::symbol`: the loop makes the sum over j of x_(l-j) × G_j.
use mathlib.Core.Path.{◌≡◌, sym, ◌∙◌}
use Prim.Native.Nat.{◌+◌}
use native.Mathlib.Omega.{arith}
use Rattle.area.proofs.Parts.{part_at_symbol}
use Rattle.code.specs.Settings.{code_of}
use Rattle.code.proofs.Blocks.{times_g_ext}
use Rattle.field.proofs.LoopSums.{sum_none, sum_more}
use Rattle.tables.proofs.Places.{combination_sum_all}
use Rattle.tables.proofs.combination.Combination.symbol.Goals as goal

pub loop-j-init : goal.loop-j-init
loop-j-init c = sum_none _ _ c.args.self.now.tables.now.ready.sound.good

pub loop-j-preserved : goal.loop-j-preserved
loop-j-preserved c =
    let l = c.loop-j in
    let t = c.args.self.now.tables.now in
    let p = t.setting in
    let part = (rw c.part-block.ensures.part at c.times_g-part.ensures.same) ∙ times_g_ext (code_of p) _ _ l.j c.args.i (part_at_symbol p.k _ c.args.self.now.information.now) in
    sum_more _ _ l.j l.sum _ _ l.invariant part (rw (sym t.same_field) at c.add-sum.ensures)

pub returns : goal.returns
returns c =
    let a = c.args.self.now in
    let all : c.loop-j.j ≡ a.l + 1 = omega arith in
    let whole = rw all at c.loop-j.invariant in
    record { same = whole.same ∙ combination_sum_all a.tables.now.setting a.information.now a.l c.args.i; below = whole.below }
