-- `block::locator::subtract_multiple` meets its contract. The loop's invariant is the promise at count i.
use mathlib.Core.Path.{◌≡◌}
use lib.ListN.{length}
use Rattle.block.specs.declared.TheConstants.{PLACES}
use Rattle.block.specs.parts.LocatorAreas.{Multiple}
use Rattle.block.proofs.locator.subtract_multiple.Given as goal

abbrev pub invariant-loop-i : goal.invariant-loop-i
invariant-loop-i l = Multiple l.field.q l.factor l.shift l.i l.source l.initial.target l.target × (length l.target ≡ PLACES)
