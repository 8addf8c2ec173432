-- The level codes over any field, α of order n and (l+1)k ≤ n (01: "It consists exactly of the blocks whose polynomials vanish at
-- α^0 .. α^(n-(l+1)k-1). Its nonzero blocks have at least d_l nonzero symbols"; 000, Theorem 2.1).
-- Holds: `combination_injective`, `combination_weight`, `information_of_spectrum` (the spectrum determines the information), `level_code` (exactly those
-- blocks).
use mathlib.Core.Path.{◌≡◌, sym, ap, ap₂, ◌∙◌}
use Prim.Native.Nat.{ℕ, zero, suc, ◌+◌, ◌-◌, ◌*◌, ◌≤◌, ◌<◌}
use native.Mathlib.Nat.{mul-le-mul_right}
use native.Mathlib.Omega.{arith}
use native.Mathlib.Decide.{dec_lt}
use Rattle.algebra.specs.Sum.{power}
use Rattle.algebra.specs.Polynomial.{value}
use Rattle.algebra.specs.parts.Values.{value_of}
use Rattle.algebra.specs.Weight.{weight}
use Rattle.algebra.proofs.Laws.{Field, mul_comm, mul_eq_zero}
use Rattle.algebra.proofs.HasOrder.{HasOrder}
use Rattle.algebra.proofs.Polynomials.{value_of_zeros}
use Rattle.algebra.proofs.Distance.{zero_of_vanishing, coefficients_of_vanishing, spectrum_injective}
use Rattle.code.specs.Code.{Code}
use Rattle.code.specs.Generator.{generator_polynomial}
use Rattle.code.specs.Level.{combination}
use Rattle.code.proofs.Blocks.{code_over, generator_polynomial_nonzero, part, combination_vanishes, combination_on_stretch}
use Rattle.code.proofs.Recovery.{part_injective, recover, recover_part}

module _ {F : Type 0} (K : Field F) (α : F) (n k m : ℕ) (order : HasOrder K.ops n α) where
  infixl 70 ◌⊗◌
  open K.ops use {mul as ◌⊗◌, zero as 𝟘, one as 𝟙}

  abbrev c : Code F
  c = code_over K α n k m

  abbrev pow : ℕ → F
  pow i = power K.ops α i

  -- The places of the spectrum that hold information block b of l+1 (those of G_(l-b)): place e of them.
  abbrev pub stretch : ℕ → ℕ → ℕ → ℕ
  stretch l b e = n - (l - b + 1) * k + e

  -- Information block b stands alone on its places of the spectrum.
  pub combination_on_information : (l b : ℕ) (x : ℕ → ℕ → F) (e : ℕ) → (l + 1) * k ≤ n → b ≤ l → e < k
      → value_of K.ops n (combination c l x) (pow (stretch l b e)) ≡ part K α n k m (x b) (n - k + e)
  combination_on_information l b x e fits below inside =
      let top : l - b + 1 ≤ l + 1 = omega arith in
      let room : (l - b + 1) * k ≤ (l + 1) * k = mul-le-mul_right k top in
      let from : n ≤ stretch l b e + (l - b + 1) * k = omega arith in
      let to : stretch l b e + (l - b) * k < n = omega arith in
      let back : l - (l - b) ≡ b = omega arith in
      let at : (l - b) * k + stretch l b e ≡ n - k + e = omega arith in
      combination_on_stretch K α n k m order l (l - b) x (stretch l b e) fits (omega arith) from to
      ∙ ap₂ (λ (i s : ℕ). part K α n k m (x i) s) back at

  -- Only zero information combines to the zero block.
  pub combination_injective : (l : ℕ) (x : ℕ → ℕ → F) → (l + 1) * k ≤ n → ((i : ℕ) → i < n → combination c l x i ≡ 𝟘)
      → (b r : ℕ) → b ≤ l → r < k → x b r ≡ 𝟘
  unfolding part
  combination_injective l x fits zeros b r below inside =
      let one_le : 1 ≤ l + 1 = omega arith in
      let room : 1 * k ≤ (l + 1) * k = mul-le-mul_right k one_le in
      coefficients_of_vanishing K n α order (n - k) k (x b) (omega arith)
      (λ e s. mul_eq_zero K (value K.ops (generator_polynomial c) (pow (n - k + e))) (value_of K.ops k (x b) (pow (n - k + e)))
      (generator_polynomial_nonzero K α n k m order (n - k + e) (omega arith) (omega arith))
      (mul_comm K (value K.ops (generator_polynomial c) (pow (n - k + e))) (value_of K.ops k (x b) (pow (n - k + e)))
      ∙ sym (combination_on_information l b x e fits below s)
      ∙ value_of_zeros K n (combination c l x) (pow (stretch l b e)) zeros))
      r inside

  -- A combination with any nonzero information symbol has more than n - (l+1)k, so at least d_l, nonzero symbols.
  pub combination_weight : (l : ℕ) (x : ℕ → ℕ → F) → (l + 1) * k ≤ n → (b r : ℕ) → b ≤ l → r < k → (x b r ≡ 𝟘 → ⊥)
      → n - (l + 1) * k < weight K.ops n (combination c l x)
  combination_weight l x fits b r below inside nonzero =
      let light : weight K.ops n (combination c l x) ≤ n - (l + 1) * k → ⊥ =
      λ few. nonzero (combination_injective l x fits
      (zero_of_vanishing K n α order 0 (n - (l + 1) * k) (combination c l x)
      (λ s h. let same : 0 + s ≡ s = omega arith in
      ap (λ (t : ℕ). value_of K.ops n (combination c l x) (pow t)) same ∙ combination_vanishes K α n k m l x s fits h)
      (omega arith))
      b r below inside) in
      omega arith

  -- Blocks whose parts of the spectrum are what a combination shows on their places are its information.
  pub information_of_spectrum : (l b : ℕ) (x : ℕ → ℕ → F) (y : ℕ → F) → (l + 1) * k ≤ n → b ≤ l
      → ((e : ℕ) → e < k → part K α n k m y (n - k + e) ≡ value_of K.ops n (combination c l x) (pow (stretch l b e)))
      → (a : ℕ) → a < k → y a ≡ x b a
  information_of_spectrum l b x y fits below same =
      let one_le : 1 ≤ l + 1 = omega arith in
      part_injective K α n k m order y (x b) (omega (arith, mul-le-mul_right k one_le)) (λ e s. same e s ∙ combination_on_information l b x e fits below s)

  -- The information read off a spectrum: symbol a of block b of l+1.
  abbrev pub information_of : ℕ → (ℕ → F) → ℕ → ℕ → F
  information_of l spectrum b = recover K α n k m (λ e. spectrum (stretch l b e))

  -- Each place from n - (l+1)k on belongs to one information block.
  on_stretch : (l s : ℕ) → n ≤ s + (l + 1) * k → s < n → (j : ℕ) × (j ≤ l) × (n ≤ s + (j + 1) * k) × (s + j * k < n)
  on_stretch zero s from l = (0, omega arith, from, omega arith)
  on_stretch (suc i) s from l = at (dec_lt (s + (i + 1) * k) n) (λ h. on_stretch i s h l)
    where
      at : Dec (s + (i + 1) * k < n) → (n ≤ s + (i + 1) * k → (j : ℕ) × (j ≤ i) × (n ≤ s + (j + 1) * k) × (s + j * k < n))
          → (j : ℕ) × (j ≤ suc i) × (n ≤ s + (j + 1) * k) × (s + j * k < n)
      at (yes h) rest = (suc i, omega arith, from, omega arith)
      at (no d) rest = let w = rest (omega arith) in (w.0, omega (arith, w.1), w.2, w.3)

  -- Every block that vanishes at α^0 .. α^(n-(l+1)k-1) is the combination of the information read off its spectrum.
  pub level_code : (l : ℕ) (b : ℕ → F) → (l + 1) * k ≤ n → ((s : ℕ) → s < n - (l + 1) * k → value_of K.ops n b (pow s) ≡ 𝟘)
      → (i : ℕ) → i < n → combination c l (information_of l (λ s. value_of K.ops n b (pow s))) i ≡ b i
  level_code l b fits vanishes = spectrum_injective K n α order (combination c l x) b (λ s h. at s h (dec_lt s (n - (l + 1) * k)))
    where
      x : ℕ → ℕ → F
      x = information_of l (λ s. value_of K.ops n b (pow s))

      high : (s : ℕ) → s < n → (j : ℕ) × (j ≤ l) × (n ≤ s + (j + 1) * k) × (s + j * k < n)
          → value_of K.ops n (combination c l x) (pow s) ≡ value_of K.ops n b (pow s)
      high s h w =
          let below : w.0 ≤ l = w.1 in
          let from : n ≤ s + (w.0 + 1) * k = w.2 in
          let to : s + w.0 * k < n = w.3 in
          let back : l - (l - w.0) ≡ w.0 = omega arith in
          let top : w.0 + 1 ≤ l + 1 = omega arith in
          let room : (w.0 + 1) * k ≤ (l + 1) * k = mul-le-mul_right k top in
          let e : ℕ = s + (w.0 + 1) * k - n in
          let inside : e < k = omega arith in
          let place : n - (w.0 + 1) * k + e ≡ s = omega arith in
          let at_place : stretch l (l - w.0) e ≡ s = ap (λ (j : ℕ). n - (j + 1) * k + e) back ∙ place in
          ap (λ (t : ℕ). value_of K.ops n (combination c l x) (pow t)) (sym at_place)
          ∙ combination_on_information l (l - w.0) x e fits (omega arith) inside
          ∙ recover_part K α n k m order (λ d. value_of K.ops n b (pow (stretch l (l - w.0) d))) (omega arith) e inside
          ∙ ap (λ (t : ℕ). value_of K.ops n b (pow t)) at_place

      at : (s : ℕ) → s < n → Dec (s < n - (l + 1) * k) → value_of K.ops n (combination c l x) (pow s) ≡ value_of K.ops n b (pow s)
      at s h (yes low) = combination_vanishes K α n k m l x s fits low ∙ sym (vanishes s low)
      at s h (no d) = high s h (on_stretch l s (omega arith) h)
