-- The two halves of the block step: the locator, and the information that it leads to.
-- Holds: `syndromes_at`, `Begun`, `Candidate`.
use Rattle.std.specs.Prelude.{◌≡◌, List, ℕ, ◌+◌, ◌-◌, ◌*◌, length}
use Rattle.code.specs.declared.Setting.{Setting}
use Rattle.block.specs.declared.locator.Locator.{Locator}
use Rattle.block.specs.declared.spectrum.Spectrum.{Spectrum}
use Rattle.block.specs.parts.LocatorAreas.{Locates}
use Rattle.block.specs.parts.Spectrum.{SpectrumOf, SpectrumKnown, Continued}
use Rattle.block.specs.parts.Factors.{unknown_places, Modified, Included}
use Rattle.block.specs.parts.Information.{InformationRead}

-- How many syndromes there are at level l: the first values of the spectrum, zero in a level-l code block.
abbrev pub syndromes_at : Setting → ℕ → ℕ
syndromes_at p l = p.n - (l + 1) * p.k

-- The syndromes of the received block, which are the error's values too; and the locator of what its unknown places leave of them, times their factors. The
-- symbols are the block's, 0 in those places.
pub record Begun (p : Setting) (l : ℕ) (block symbols : List ℕ) (spectrum : Spectrum) (locator : Locator) : Type 0 where
  pub all : spectrum.known ≡ syndromes_at p l
  pub known : SpectrumKnown p.q symbols spectrum
  pub modified : List ℕ
  pub modifies : Modified p.q (unknown_places p.q block) (syndromes_at p l) spectrum.series modified
  pub found : Locator
  pub located : Locates p.q modified (syndromes_at p l - length (unknown_places p.q block)) found
  pub included : Included p.q (unknown_places p.q block) found locator

-- The whole spectrum of the received block; the error's, as the locator continues it; and the information read off what is there besides.
pub record Candidate (p : Setting) (l : ℕ) (symbols : List ℕ) (locator : Locator) (information : List ℕ) : Type 0 where
  pub series : List ℕ
  pub spectral : SpectrumOf p.q symbols p.n series
  pub after : List ℕ
  pub values : List ℕ
  pub continued : Continued p.q locator.degree (syndromes_at p l) ((l + 1) * p.k) locator.coefficients series after values
  pub reads : InformationRead p (l + 1) values information
