-- The locator in areas: what the functions that make it promise.
-- Holds: `UnitSeries`, `Multiple`, `LocatorPair`, `Locates`.
use Rattle.std.specs.Prelude.{◌≡◌, List, ℕ, ◌<◌}
use Rattle.field.specs.Fields.{ops_of}
use Rattle.field.specs.parts.Sequences.{AllBelow, at}
use Rattle.block.specs.declared.locator.Locator.{Locator}
use Rattle.block.specs.parts.Locator.{Subtracted, Located}

-- The series 1, 0, 0, ..
pub record UnitSeries (l : List ℕ) : Type 0 where
  pub first : at l 0 ≡ 1
  pub rest : (i : ℕ) → 0 < i → at l i ≡ 0

-- A multiple of one series, moved up, was subtracted from another.
pub record Multiple (q factor shift count : ℕ) (source before after : List ℕ) : Type 0 where
  pub below : AllBelow q after
  pub subtracted : Subtracted (ops_of q) factor shift count (at source) (at before) (at after)

-- The locator and the former one, in their areas, for the series up to place s.
pub record LocatorPair (q : ℕ) (series : List ℕ) (s L place scale : ℕ) (locator former : List ℕ) : Type 0 where
  pub locator_below : AllBelow q locator
  pub former_below : AllBelow q former
  pub scale_below : scale < q
  pub located : Located (ops_of q) (at series) s L place scale (at locator) (at former)

-- The same of a locator as the code has it.
abbrev pub Locates : ℕ → List ℕ → ℕ → Locator → Type 0
Locates q series s σ = LocatorPair q series s σ.degree σ.place σ.scale σ.coefficients σ.former
