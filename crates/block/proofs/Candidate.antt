-- If a combination is near the received block, the information read off the continued spectrum is its information, whatever stands in the unknown places. Over
-- any field, α of order n and (l+1)k ≤ n; r = n - (l+1)k is the number of zeros of the level-l code.
-- Holds: `degree_of_near`, `values_of_near`, `information_of_near`.
use mathlib.Core.Path.{◌≡◌, sym, ap, ap₂, ◌∙◌}
use mathlib.Core.List.{List}
use Prim.Native.Nat.{ℕ, suc, ◌+◌, ◌-◌, ◌*◌, ◌≤◌, ◌<◌}
use native.Mathlib.Nat.{mul-le-mul_right}
use native.Mathlib.Omega.{arith}
use lib.ListN.{length}
use Rattle.algebra.specs.Ops.{sub}
use Rattle.algebra.specs.Sum.{power}
use Rattle.algebra.specs.Weight.{weight}
use Rattle.algebra.proofs.Laws.{Field, sub_sub, ring}
use Rattle.algebra.proofs.HasOrder.{HasOrder}
use Rattle.algebra.proofs.Polynomials.{value_of_sub}
use Rattle.algebra.proofs.Sums.{sum_ext}
use Rattle.code.specs.Code.{Code}
use Rattle.code.specs.Level.{combination}
use Rattle.code.specs.parts.Recovery.{Recovered}
use Rattle.code.proofs.Blocks.{code_over, combination_vanishes}
use Rattle.code.proofs.LevelCode.{information_of_spectrum}
use Rattle.code.proofs.Recovery.{recovered_part}
use Rattle.block.specs.parts.Locator.{Located, Extended}
use Rattle.block.specs.parts.Factors.{times_factors}
use Rattle.block.proofs.ErrorSpectrum.{spectrum, against, degree_of_light, difference_is_rest}
use Rattle.block.proofs.Factors.{factors_first}
use Rattle.block.proofs.Thinning.{thinned, factors_spectrum, annihilated_by_factors}

module _ {F : Type 0} (K : Field F) (α : F) (n k m : ℕ) (order : HasOrder K.ops n α) (l : ℕ) (fits : (l + 1) * k ≤ n) where
  infixl 60 ◌⊕◌
  infixl 70 ◌⊗◌
  infix 80 ⊖◌
  open K.ops use {add as ◌⊕◌, mul as ◌⊗◌, neg as ⊖◌, zero as 𝟘, one as 𝟙}

  abbrev code : Code F
  code = code_over K α n k m

  -- A received block v with unknown places, and a combination x: twice the known symbols in which they differ, plus the unknown places, is at most r.
  module _ (v : ℕ → F) (places : List ℕ) (x : ℕ → ℕ → F) (w : ℕ)
      (light : weight K.ops n (thinned K n α order places (λ i. sub K.ops (v i) (combination code l x i))) ≤ w)
      (small : w + w + length places ≤ n - (l + 1) * k)
      (c f : ℕ → F) (known : (s : ℕ) → s < n - (l + 1) * k → c (suc s) ≡ spectrum K n α order v s)
      (modified : (s : ℕ) → length places + s < n - (l + 1) * k → f (suc s) ≡ times_factors K.ops α places c (suc (length places + s)))
      (L p : ℕ) (scale : F) (σ τ : ℕ → F) (located : Located K.ops f (n - (l + 1) * k - length places) L p scale σ τ) where
    sent : ℕ → F
    sent i = combination code l x i

    error : ℕ → F
    error i = sub K.ops (v i) (sent i)

    spectrum_error : (s : ℕ) → spectrum K n α order error s ≡ sub K.ops (spectrum K n α order v s) (spectrum K n α order sent s)
    unfolding error
    spectrum_error s = value_of_sub K n v sent (power K.ops α s)

    nothing_less : (a : F) → a ⊕ ⊖ 𝟘 ≡ a
    nothing_less a = simp ring

    -- The syndromes are the error's values too.
    syndrome_error : (s : ℕ) → s < n - (l + 1) * k → spectrum K n α order v s ≡ spectrum K n α order error s
    unfolding sent
    syndrome_error s h =
        sym (nothing_less (spectrum K n α order v s))
        ∙ ap (λ (t : F). sub K.ops (spectrum K n α order v s) t) (sym (combination_vanishes K α n k m l x s fits h))
        ∙ sym (spectrum_error s)

    known_thinned : (s : ℕ) → s < n - (l + 1) * k - length places → f (suc s) ≡ spectrum K n α order (thinned K n α order places error) s
    known_thinned s h =
        modified s (omega arith)
        ∙ factors_spectrum K n α order (n - (l + 1) * k) error c (λ t u. known t u ∙ syndrome_error t u) places s (omega arith)

    -- The locator's degree is at most the number of known symbols that differ.
    pub degree_of_near : L ≤ w
    unfolding error sent
    degree_of_near =
        degree_of_light K n α order (n - (l + 1) * k - length places) (thinned K n α order places error) f known_thinned L p scale σ τ located w light
        (omega arith)

    -- The whole spectrum of v, and how the locator times the factors continued that of its error.
    module _ (d : ℕ → F) (whole : (s : ℕ) → s < n → d (suc s) ≡ spectrum K n α order v s)
        (ρ after values : ℕ → F) (product : (a : ℕ) → a ≤ L + length places → ρ a ≡ times_factors K.ops α places σ a)
        (extended : Extended K.ops (L + length places) (n - (l + 1) * k) ((l + 1) * k) ρ d after values) where
      product_annihilates : (s : ℕ) → against K n α order (L + length places) ρ error s ≡ 𝟘
      unfolding error sent
      product_annihilates s =
          sum_ext K.ops (suc (L + length places)) (λ a. ρ a ⊗ spectrum K n α order error (L + length places + s - a))
          (λ a. times_factors K.ops α places σ a ⊗ spectrum K n α order error (L + length places + s - a))
          (λ a u. ap (λ (t : F). t ⊗ spectrum K n α order error (L + length places + s - a)) (product a (omega arith)))
          ∙ annihilated_by_factors K n α order places (n - (l + 1) * k - length places) error f known_thinned L p scale σ τ located w light (omega arith) s

      -- What the received block has besides the error is the combination's spectrum.
      pub values_of_near : (u : ℕ) → u < (l + 1) * k → values u ≡ spectrum K n α order (λ i. combination code l x i) (n - (l + 1) * k + u)
      unfolding error sent
      values_of_near u h =
          let place : n - (l + 1) * k + 1 + u ≡ suc (n - (l + 1) * k + u) = omega arith in
          difference_is_rest K n α order (n - (l + 1) * k) error d (λ s g. whole s (omega arith) ∙ syndrome_error s g) (L + length places) ρ
          (product 0 (omega arith) ∙ factors_first K.ops α σ places ∙ located.first) (omega (arith, degree_of_near)) product_annihilates
          after values ((l + 1) * k) extended u h
          ∙ ap₂ (sub K.ops) (ap d place ∙ whole (n - (l + 1) * k + u) (omega arith)) (spectrum_error (n - (l + 1) * k + u))
          ∙ sub_sub K (spectrum K n α order v (n - (l + 1) * k + u)) (spectrum K n α order sent (n - (l + 1) * k + u))

      -- A block recovered from its values is the combination's information block.
      pub information_of_near : (b : ℕ) (y : ℕ → F) → b ≤ l → Recovered code (λ e. values (b * k + e)) k y → (a : ℕ) → a < k → y a ≡ x b a
      information_of_near b y below h =
          information_of_spectrum K α n k m order l b x y fits below
          (λ e u. recovered_part K α n k m order (λ e. values (b * k + e)) y (omega (arith, next, fits)) h e u
          ∙ values_of_near (b * k + e) (within e u) ∙ ap (spectrum K n α order (λ i. combination code l x i)) (place e u))
        where
          together : (l - b + 1 + b) * k ≡ (l + 1) * k
          together = let same : l - b + 1 + b ≡ l + 1 = omega arith in ap (λ (t : ℕ). t * k) same

          next : (b + 1) * k ≤ (l + 1) * k
          next = let up : b + 1 ≤ l + 1 = omega arith in mul-le-mul_right k up

          within : (e : ℕ) → e < k → b * k + e < (l + 1) * k
          within e h = omega (arith, next)

          place : (e : ℕ) → e < k → n - (l + 1) * k + (b * k + e) ≡ n - (l - b + 1) * k + e
          place e h = omega (arith, together, fits)
