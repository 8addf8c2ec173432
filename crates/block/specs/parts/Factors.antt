-- The factors of unknown places (02, #106): place i has the factor 1 - α^i x. A spectrum multiplied by them no longer shows what stands at those places.
-- Holds: `times_factor`, `times_factors`; `places_where`, `unknown_places`; `Filled`, `FactoredOnce`, `Factored`, `Modified`, `Included`.
use Rattle.std.specs.Prelude.{◌≡◌, Bool, List, [], ◌∷◌, ℕ, zero, suc, ◌+◌, ◌<◌, length}
use Rattle.algebra.specs.Ops.{Ops, sub, pick}
use Rattle.algebra.specs.Sum.{power}
use Rattle.field.specs.Fields.{ops_of, alpha}
use Rattle.field.specs.Symbols.{is_unknown, known_symbol}
use Rattle.field.specs.parts.Sequences.{AllBelow, at}
use Rattle.block.specs.declared.TheConstants.{PLACES}
use Rattle.block.specs.declared.locator.Locator.{Locator}

-- Coefficient j of (1 - β x) × σ.
unfoldable pub times_factor : {F : Type 0} → Ops F → F → (ℕ → F) → ℕ → F
times_factor o β σ zero = σ 0
times_factor o β σ (suc j) = sub o (σ (suc j)) (o.mul β (σ j))

-- σ multiplied by the factors of so many places.
unfoldable pub times_factors : {F : Type 0} → Ops F → F → List ℕ → (ℕ → F) → ℕ → F
times_factors o α [] σ = σ
times_factors o α (i ∷ places) σ = times_factor o (power o α i) (times_factors o α places σ)

-- The places below n at which a test holds, the last one first.
unfoldable pub places_where : (ℕ → Bool) → ℕ → List ℕ
places_where test zero = []
places_where test (suc n) = pick (test n) (n ∷ places_where test n) (places_where test n)

-- The places of a block's unknown symbols.
abbrev pub unknown_places : ℕ → List ℕ → List ℕ
unknown_places q block = places_where (λ i. is_unknown q (at block i)) (length block)

-- The symbols of a block, 0 in its unknown places.
pub record Filled (q : ℕ) (block symbols : List ℕ) : Type 0 where
  pub below : AllBelow q symbols
  pub same : (i : ℕ) → i < length block → at symbols i ≡ known_symbol q (at block i)

-- A series multiplied by a factor, and by those of so many places, as far as its area goes.
pub record FactoredOnce (q point : ℕ) (before after : List ℕ) : Type 0 where
  pub below : AllBelow q after
  pub terms : (j : ℕ) → j < PLACES → at after j ≡ times_factor (ops_of q) point (at before) j

pub record Factored (q : ℕ) (places before after : List ℕ) : Type 0 where
  pub below : AllBelow q after
  pub terms : (j : ℕ) → j < PLACES → at after j ≡ times_factors (ops_of q) alpha places (at before) j

-- Modified syndromes: 1, and then what the factors leave of `known` terms of a series, those from the place of their number on.
pub record Modified (q : ℕ) (places : List ℕ) (known : ℕ) (before after : List ℕ) : Type 0 where
  pub below : AllBelow q after
  pub first : at after 0 ≡ 1
  pub terms : (s : ℕ) → length places + s < known → at after (s + 1) ≡ times_factors (ops_of q) alpha places (at before) (length places + s + 1)

-- A locator multiplied by the factors, which its degree counts.
pub record Included (q : ℕ) (places : List ℕ) (before after : Locator) : Type 0 where
  pub degree : after.degree ≡ before.degree + length places
  pub factored : Factored q places before.coefficients after.coefficients
