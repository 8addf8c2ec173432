-- `block::spectrum::Spectrum::add_values` meets its contract. The loop's invariant: s values stand in the series, and the point is α^s.
use mathlib.Core.Path.{◌≡◌}
use lib.ListN.{length}
use Rattle.algebra.specs.Sum.{power}
use Rattle.field.specs.Fields.{ops_of, alpha}
use Rattle.field.specs.parts.Operations.{Is}
use Rattle.block.specs.declared.TheConstants.{PLACES}
use Rattle.block.specs.parts.Spectrum.{SpectrumOf}
use Rattle.block.proofs.spectrum.Spectrum.add_values.Given as goal

abbrev pub invariant-loop-s : goal.invariant-loop-s
invariant-loop-s l =
    Is l.field.q l.self.point (power (ops_of l.field.q) alpha l.s) × SpectrumOf l.field.q l.block l.s l.self.series × (length l.self.series ≡ PLACES)
