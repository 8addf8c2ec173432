-- `block::information::BlockValues::read` meets its contract. The loop's invariant is the promise for the symbols from i on, and the point is (1/α)^(k - i).
use mathlib.Core.Path.{◌≡◌, sym}
use Prim.Native.Nat.{◌+◌, ◌-◌}
use native.Mathlib.Omega.{arith}
use Rattle.block.proofs.InformationRead.{back_none, back_more, block_none, block_more}
use Rattle.block.proofs.information.BlockValues.read.Goals as goal

pub loop-i-init : goal.loop-i-init
loop-i-init c =
    let of = c.args.self.now in
    let t = of.tables.now in
    let none : t.setting.k - t.setting.k ≡ 0 = omega arith in
    rw none (back_none _ t.ready.sound.good, block_none _ t.ready.sound _ of.below _ c.requires.0)

pub loop-i-preserved : goal.loop-i-preserved
loop-i-preserved c =
    let of = c.args.self.now in
    let t = of.tables.now in
    let l = c.loop-i in
    let S = t.ready.sound in
    let same = sym t.same_field in
    let more : t.setting.k - l.i + 1 ≡ t.setting.k - (l.i - 1) = omega (arith, l.auto.i) in
    let point = back_more _ S.good (t.setting.k - l.i) _ _ _ _ more (rw same at c.inverse-back.ensures) l.invariant.0 (rw same at c.multiply-point.ensures) in
    (point, block_more _ S _ of.below _ (l.i - 1) _ _ _ (omega (arith, l.auto.information, c.requires.1)) (omega (arith, l.auto.i)) more l.invariant.1 point c.symbol.ensures)
