-- `block::locator::Locator::of` meets its contract. The loop's invariant: the locator is that of the terms up to place `known`.
use Rattle.block.specs.parts.LocatorAreas.{Locates}
use Rattle.block.proofs.locator.Locator.of.Given as goal

abbrev pub invariant-loop-known : goal.invariant-loop-known
invariant-loop-known l = Locates l.field.q l.series l.known l.locator
