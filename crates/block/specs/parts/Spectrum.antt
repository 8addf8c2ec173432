-- What the functions on spectra promise.
-- Holds: `SpectrumOf`, `SpectrumKnown`, `Continued`.
use Rattle.std.specs.Prelude.{◌≡◌, List, ℕ, ◌+◌, ◌<◌}
use Rattle.algebra.specs.Sum.{power}
use Rattle.algebra.specs.Polynomial.{value}
use Rattle.field.specs.Fields.{ops_of, alpha}
use Rattle.field.specs.parts.Operations.{Is}
use Rattle.field.specs.parts.Sequences.{AllBelow, at}
use Rattle.block.specs.declared.spectrum.Spectrum.{Spectrum}
use Rattle.block.specs.parts.Locator.{Extended}

-- 1, and then the first `count` values of the block's spectrum.
pub record SpectrumOf (q : ℕ) (block : List ℕ) (count : ℕ) (series : List ℕ) : Type 0 where
  pub below : AllBelow q series
  pub first : at series 0 ≡ 1
  pub values : (s : ℕ) → s < count → at series (s + 1) ≡ value (ops_of q) block (power (ops_of q) alpha s)

-- What is known of the block's spectrum, and the point of the next value.
pub record SpectrumKnown (q : ℕ) (block : List ℕ) (spectrum : Spectrum) : Type 0 where
  pub spectral : SpectrumOf q block spectrum.known spectrum.series
  pub next : Is q spectrum.point (power (ops_of q) alpha spectrum.known)

-- The series was continued by the recurrence, and `values` holds what it had besides.
pub record Continued (q L r count : ℕ) (locator before after values : List ℕ) : Type 0 where
  pub below : AllBelow q after
  pub values_below : AllBelow q values
  pub extended : Extended (ops_of q) L r count (at locator) (at before) (at after) (at values)
  pub beyond : (j : ℕ) → r + count < j → at after j ≡ at before j
