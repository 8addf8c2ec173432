-- `block::locator::Locator::of` meets its contract. The loop's invariant: the locator is that of the terms up to place `known`.
use Rattle.block.proofs.LocatorPair.{pair_start}
use Rattle.block.proofs.locator.Locator.of.Goals as goal

pub loop-known-init : goal.loop-known-init
loop-known-init c = pair_start _ c.args.field.now.good c.requires.0 c.requires.1 c.unit.ensures c.unit-2.ensures
