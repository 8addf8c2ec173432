-- `Tables::times_g`: the loop makes the sum over the rows of G_j.
use mathlib.Core.Path.{◌≡◌, refl, sym, ◌∙◌}
use Prim.Native.Nat.{◌<◌}
use native.Mathlib.Omega.{arith}
use Rattle.field.proofs.LoopSums.{sum_none, sum_more}
use Rattle.tables.proofs.Places.{place_of, product_sum_all}
use Rattle.tables.proofs.Tables.times_g.Goals as goal

pub loop-r-init : goal.loop-r-init
loop-r-init c = sum_none _ _ c.args.self.now.ready.sound.good

pub add_product-sum-requires : goal.add_product-sum-requires
add_product-sum-requires c =
    let p = c.requires in
    let a = c.args in
    let l = c.loop-r in
    let t = a.self.now in
    let row : l.r < t.setting.k = omega (arith, p.1, c.loop-r-test.true) in
    let place = place_of t.setting t.ready.sound t.rows t.ready.rows a.j l.r a.i p.2 row p.3 in
    rw (sym t.same_field) (l.invariant.below, p.0.below l.r c.loop-r-test.true, place.1)

pub loop-r-preserved : goal.loop-r-preserved
loop-r-preserved c = let l = c.loop-r in sum_more _ _ l.r l.sum _ _ l.invariant refl (rw (sym c.args.self.now.same_field) at c.add_product-sum.ensures)

pub returns : goal.returns
returns c =
    let a = c.args in
    let t = a.self.now in
    let all : c.loop-r.r ≡ t.setting.k = omega arith in
    let whole = rw all at c.loop-r.invariant in
    record { same = whole.same ∙ product_sum_all t.setting t.rows a.block.now a.j a.i t.ready.rows c.requires.2 c.requires.3; below = whole.below }
