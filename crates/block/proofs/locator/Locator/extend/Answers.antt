-- `block::locator::Locator::extend` meets its contract. The loop's invariant is the promise at count u.
use native.Mathlib.Omega.{arith}
use lib.ListN.{length-set}
use Rattle.block.proofs.Spectra.{continued_more}
use Rattle.block.proofs.locator.Locator.extend.Goals as goal

pub loop-u-preserved : goal.loop-u-preserved
loop-u-preserved c =
    let l = c.loop-u in
    let room = c.requires.3 in (
      continued_more _ _ _ _ _ _ _ _ _ _ _ l.invariant.0 (omega (arith, room, l.invariant.1)) (omega (arith, room, l.invariant.2)) c.tail-rest.ensures
          c.add.ensures c.negate-continued.ensures,
      simp length-set l.invariant.1,
      simp length-set l.invariant.2,
    )
