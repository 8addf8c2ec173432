-- `block::locator::Locator::tail` meets its contract. The loop's invariant: the sum so far is that of a terms.
use mathlib.Core.Path.{refl}
use Rattle.field.proofs.LoopSums.{sum_none, sum_more}
use Rattle.block.specs.parts.Locator.{tail}
use Rattle.block.proofs.locator.Locator.tail.Goals as goal

pub loop-a-init : goal.loop-a-init
unfolding tail
loop-a-init c = sum_none _ _ c.args.field.now.good

pub loop-a-preserved : goal.loop-a-preserved
unfolding tail
loop-a-preserved c =
    let l = c.loop-a in
    sum_more _ _ l.a l.sum _ _ l.invariant refl c.add_product-sum.ensures
