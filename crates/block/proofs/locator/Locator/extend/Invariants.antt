-- `block::locator::Locator::extend` meets its contract. The loop's invariant is the promise at count u.
use mathlib.Core.Path.{◌≡◌}
use lib.ListN.{length}
use Rattle.block.specs.declared.TheConstants.{PLACES}
use Rattle.block.specs.parts.Spectrum.{Continued}
use Rattle.block.proofs.locator.Locator.extend.Given as goal

abbrev pub invariant-loop-u : goal.invariant-loop-u
invariant-loop-u l =
    Continued l.field.q l.self.degree l.r l.u l.self.coefficients l.initial.series l.series l.values
    × (length l.series ≡ PLACES) × (length l.values ≡ PLACES)
