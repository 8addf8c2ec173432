-- `block::information::read` meets its contract. The loop's invariant is the promise for b blocks.
use mathlib.Core.Path.{◌∙◌}
use Prim.Native.Nat.{ℕ, ◌+◌, ◌*◌, ◌≤◌, ◌<◌}
use native.Mathlib.Omega.{arith}
use lib.ListN.{length}
use Rattle.area.proofs.Parts.{parts_apart, part_length, length_put}
use Rattle.block.proofs.InformationRead.{read_more}
use Rattle.block.proofs.information.read.Goals as goal

-- Block b lies within the area.
fits : (k blocks b places : ℕ) → b < blocks → blocks * k ≤ places → b * k + k ≤ places
fits k blocks b places l h = omega (arith, parts_apart k blocks b l, h)

pub loop-b-preserved : goal.loop-b-preserved
loop-b-preserved c =
    let l = c.loop-b in
    let t = c.args.tables.now in
    let k = t.setting.k in
    let within : l.b * k + k ≤ length l.information = omega (arith, fits k c.args.blocks l.b _ c.loop-b-test.true c.requires.2, l.invariant.1) in
    let long = c.read.auto.information ∙ part_length k (l.b * k) _ within in
    (read_more _ t.ready.sound _ c.requires.0 l.b _ _ within long l.invariant.0 (rw c.part.ensures.part at c.read.ensures), length_put k l.b _ _ within long ∙ l.invariant.1)
