-- From the locator to the spectrum of the error, over any field with α of order n.
-- The block y_i = e_i ψ(α^i), ψ the mirrored locator, has few nonzero symbols and many zeros in its spectrum, so it is zero.
-- A light block e (2 × weight at most r) whose spectrum is known at α^0 .. α^(r-1): the locator of what is known annihilates the whole spectrum.
-- Holds: `light_annihilated` (the distance lemma again), `degree_of_light`, `recurs_of_light`, and `extension_is_spectrum`: the recurrence gives all of it.
use mathlib.Core.Path.{◌≡◌, refl, sym, ap, ap₂, subst, ◌∙◌}
use mathlib.Core.Bool.{Bool, true, not}
use Prim.Native.Nat.{ℕ, zero, suc, ◌+◌, ◌-◌, ◌≤◌, ◌<◌}
use native.Mathlib.Numerals.{add-one}
use native.Mathlib.Omega.{arith}
use native.Mathlib.Decide.{dec_lt}
use Rattle.algebra.specs.Ops.{sub}
use Rattle.algebra.specs.Sum.{sum, power}
use Rattle.algebra.specs.parts.Values.{value_of}
use Rattle.algebra.specs.Weight.{weight}
use Rattle.algebra.proofs.Laws.{Field, Tested, the_zero, non_zero, add_comm, mul-zero, one-mul, neg_unique, neg_neg, ring}
use Rattle.algebra.proofs.HasOrder.{HasOrder}
use Rattle.algebra.proofs.Sums.{sum_ext, sum_zeros, sum_first}
use Rattle.algebra.proofs.Powers.{power_add}
use Rattle.algebra.proofs.Polynomials.{value_of_scale, value_of_twist, value_of_of_sum, value_of_zeros}
use Rattle.algebra.proofs.Weights.{count_of_mono, zero_uncounted}
use Rattle.algebra.proofs.Distance.{zero_of_vanishing}
use Rattle.block.specs.parts.Locator.{convolution, tail, Located, Extended}
use Rattle.block.proofs.LocatorStep.{convolution_short}

module _ {F : Type 0} (K : Field F) (n : ℕ) (α : F) (order : HasOrder K.ops n α) where
  infixl 60 ◌⊕◌
  infixl 70 ◌⊗◌
  infix 80 ⊖◌
  open K.ops use {add as ◌⊕◌, mul as ◌⊗◌, neg as ⊖◌, zero as 𝟘, one as 𝟙}

  -- The spectrum of a block.
  abbrev pub spectrum : (ℕ → F) → ℕ → F
  spectrum e s = value_of K.ops n e (power K.ops α s)

  -- σ_0 E_(L+s) + .. + σ_L E_s: coefficient L+s of the product of a series of degree L with a spectrum.
  abbrev pub against : ℕ → (ℕ → F) → (ℕ → F) → ℕ → F
  against L σ e s = sum K.ops (suc L) (λ a. σ a ⊗ spectrum e (L + s - a))

  module _ (L : ℕ) (σ e : ℕ → F) where
    -- The block whose symbols are those of e, each multiplied by the mirrored locator's value at its point.
    y : ℕ → F
    y i = sum K.ops (suc L) (λ a. σ a ⊗ (e i ⊗ power K.ops (power K.ops α (L - a)) i))

    spectrum_y : (s : ℕ) → spectrum y s ≡ against L σ e s
    unfolding y
    spectrum_y s =
        value_of_of_sum K n (suc L) (λ a i. σ a ⊗ (e i ⊗ power K.ops (power K.ops α (L - a)) i)) (power K.ops α s)
        ∙ sum_ext K.ops (suc L) (λ a. value_of K.ops n (λ i. σ a ⊗ (e i ⊗ power K.ops (power K.ops α (L - a)) i)) (power K.ops α s))
        (λ a. σ a ⊗ spectrum e (L + s - a))
        (λ a l. value_of_scale K n (σ a) (λ i. e i ⊗ power K.ops (power K.ops α (L - a)) i) (power K.ops α s)
        ∙ ap (λ (t : F). σ a ⊗ t)
        (value_of_twist K n e (power K.ops α (L - a)) (power K.ops α s)
        ∙ ap (value_of K.ops n e) (sym (power_add K α (L - a) s) ∙ ap (power K.ops α) (place a s l))))
      where
        place : (a s : ℕ) → a < suc L → L - a + s ≡ L + s - a
        place a s l = omega arith

    -- Where e is zero, so is y.
    y_zero : (i : ℕ) → e i ≡ 𝟘 → y i ≡ 𝟘
    unfolding y
    y_zero i z =
        sum_zeros K (suc L) (λ a. σ a ⊗ (e i ⊗ power K.ops (power K.ops α (L - a)) i))
        (λ a l. ap (λ (t : F). σ a ⊗ (t ⊗ power K.ops (power K.ops α (L - a)) i)) z ∙ simp ring)

    weight_y : weight K.ops n y ≤ weight K.ops n e
    weight_y = count_of_mono n (λ i. not (K.ops.is_zero (y i))) (λ i. not (K.ops.is_zero (e i))) (λ i l h. at i h (K.tested (e i)))
      where
        at : (i : ℕ) {t : Bool} → not (K.ops.is_zero (y i)) ≡ true → Tested 𝟘 (e i) t → not t ≡ true
        at i h (the_zero z) = absurd (zero_uncounted K (y i) (y_zero i z) h)
        at i h (non_zero d) = refl

    -- A block of weight at most w whose spectrum the series annihilates at w consecutive places has its whole spectrum annihilated.
    pub light_annihilated : (w : ℕ) → weight K.ops n e ≤ w → ((s : ℕ) → s < w → against L σ e s ≡ 𝟘) → (s : ℕ) → against L σ e s ≡ 𝟘
    light_annihilated w light known s =
        sym (spectrum_y s)
        ∙ value_of_zeros K n y (power K.ops α s)
        (zero_of_vanishing K n α order 0 w y
        (λ t l. let same : 0 + t ≡ t = omega arith in ap (spectrum y) same ∙ spectrum_y t ∙ known t l)
        (omega (arith, weight_y)))

  -- What is known: c_1 .. c_r are the first r values of e's spectrum, and a locator for them.
  module _ (r : ℕ) (e c : ℕ → F) (known : (s : ℕ) → s < r → c (suc s) ≡ spectrum e s)
      (L p : ℕ) (scale : F) (σ τ : ℕ → F) (located : Located K.ops c r L p scale σ τ) where
    -- A product with c, at a place above the degree where c is known, is one with the spectrum.
    against_known : (M : ℕ) (ρ : ℕ → F) → ((a : ℕ) → M < a → ρ a ≡ 𝟘) → (s : ℕ) → M + s < r → against M ρ e s ≡ convolution K.ops ρ c (suc (M + s))
    against_known M ρ short s l =
        sum_ext K.ops (suc M) (λ a. ρ a ⊗ spectrum e (M + s - a)) (λ a. ρ a ⊗ c (suc (M + s) - a))
        (λ a h. ap (λ (t : F). ρ a ⊗ t) (sym (known (M + s - a) (omega arith)) ∙ ap c (place a h)))
        ∙ sym (convolution_short K M ρ c short (suc (M + s)) (omega arith))
      where
        place : (a : ℕ) → a < suc M → suc (M + s - a) ≡ suc (M + s) - a
        place a h = omega arith

    -- The locator's degree is at most the weight of e: else the former locator would annihilate the place at which it fails.
    pub degree_of_light : (w : ℕ) → weight K.ops n e ≤ w → w + w ≤ r → L ≤ w
    degree_of_light w light small =
        let never : w < L → ⊥ = λ h. K.one_nonzero (sym located.former_discrepancy ∙ ap (λ (t : F). scale ⊗ t) (former h) ∙ mul-zero K scale) in omega arith
      where
        former : w < L → convolution K.ops τ c p ≡ 𝟘
        former h =
            let place : suc (p - L + (L - 1)) ≡ p = omega (arith, located.grown) in
            ap (convolution K.ops τ c) (sym place)
            ∙ sym (against_known (p - L) τ (λ a l. located.former_short a (omega arith)) (L - 1) (omega (arith, located.placed)))
            ∙ light_annihilated (p - L) τ e w light
            (λ s l. against_known (p - L) τ (λ a u. located.former_short a (omega arith)) s (omega (arith, located.placed, located.grown))
            ∙ located.former_annihilates (suc (p - L + s)) (omega (arith, located.grown)) (omega (arith, located.grown)))
            (L - 1)

    -- The locator annihilates the whole spectrum of e.
    pub recurs_of_light : (w : ℕ) → weight K.ops n e ≤ w → w + w ≤ r → (s : ℕ) → against L σ e s ≡ 𝟘
    recurs_of_light w light small =
        light_annihilated L σ e w light
        (λ s l. against_known L σ located.short s (omega (arith, degree_of_light w light small))
        ∙ located.annihilates (suc (L + s)) (omega arith) (omega (arith, degree_of_light w light small)))

  -- A series that begins with 1 and annihilates the whole spectrum of e continues what is known of it, if its degree is at most that.
  module _ (r : ℕ) (e c : ℕ → F) (known : (s : ℕ) → s < r → c (suc s) ≡ spectrum e s)
      (L : ℕ) (σ : ℕ → F) (first : σ 0 ≡ 𝟙) (short : L ≤ r) (annihilated : (s : ℕ) → against L σ e s ≡ 𝟘) where
    against_tail : (j : ℕ) → L ≤ j → against L σ e (j - L) ≡ spectrum e j ⊕ tail K.ops L σ (spectrum e) j
    unfolding tail
    against_tail j l =
        let whole : L + (j - L) ≡ j = omega arith in
        let begin : j - 0 ≡ j = omega arith in
        ap (λ (t : ℕ). sum K.ops (suc L) (λ a. σ a ⊗ spectrum e (t - a))) whole
        ∙ sum_first K L (λ a. σ a ⊗ spectrum e (j - a))
        ∙ ap₂ ◌⊕◌ (ap₂ ◌⊗◌ first (ap (spectrum e) begin) ∙ one-mul K (spectrum e j))
        (sum_ext K.ops L (λ a. σ (suc a) ⊗ spectrum e (j - suc a)) (λ a. σ (a + 1) ⊗ spectrum e (j - (a + 1)))
        (λ a s. ap (λ (t : ℕ). σ t ⊗ spectrum e (j - t)) (sym (add-one a))))

    -- The series continued by the recurrence is the spectrum of e.
    module _ (d : ℕ → F) (values : ℕ → F) (m : ℕ) (extended : Extended K.ops L r m σ c d values) where
      tails : (s : ℕ) → L ≤ s → s < r + m → ((t : ℕ) → t < s → t < r + m → d (suc t) ≡ spectrum e t)
          → tail K.ops L σ d (suc s) ≡ tail K.ops L σ (spectrum e) s
      unfolding tail
      tails s h l earlier =
          sum_ext K.ops L (λ a. σ (a + 1) ⊗ d (suc s - (a + 1))) (λ a. σ (a + 1) ⊗ spectrum e (s - (a + 1)))
          (λ a u. let place : suc s - (a + 1) ≡ suc (s - (a + 1)) = omega arith in
          ap (λ (t : F). σ (a + 1) ⊗ t) (ap d place ∙ earlier (s - (a + 1)) (omega arith) (omega arith)))

      up_to : (bound s : ℕ) → s < bound → s < r + m → d (suc s) ≡ spectrum e s
      up_to zero s b l = absurd (omega arith)
      up_to (suc bound) s b l = at (dec_lt s r) (up_to bound)
        where
          at : Dec (s < r) → ((t : ℕ) → t < bound → t < r + m → d (suc t) ≡ spectrum e t) → d (suc s) ≡ spectrum e s
          at (yes h) earlier = extended.kept (suc s) h ∙ known s h
          at (no outside) earlier =
              let reach : L ≤ s = omega arith in
              let place : r + 1 + (s - r) ≡ suc s = omega arith in
              subst (λ (t : ℕ). d t ≡ ⊖ tail K.ops L σ d t) place (extended.recurs (s - r) (omega arith))
              ∙ ap (λ (t : F). ⊖ t) (tails s reach l (λ t u. earlier t (omega arith)))
              ∙ sym (neg_unique K (tail K.ops L σ (spectrum e) s) (spectrum e s)
              (add_comm K (tail K.ops L σ (spectrum e) s) (spectrum e s) ∙ sym (against_tail s reach) ∙ annihilated (s - L)))

      pub extension_is_spectrum : (s : ℕ) → s < r + m → d (suc s) ≡ spectrum e s
      extension_is_spectrum s l = up_to (suc s) s (omega arith) l

      difference_step : (x t u : F) → u ≡ ⊖ t → x ⊕ t ≡ x ⊕ ⊖ u
      difference_step x t u h = ap (λ (z : F). x ⊕ z) (sym (neg_neg K t) ∙ ap (λ (z : F). ⊖ z) (sym h))

      -- What is left of the series is what the received block has besides e.
      pub difference_is_rest : (u : ℕ) → u < m → values u ≡ sub K.ops (c (r + 1 + u)) (spectrum e (r + u))
      difference_is_rest u l =
          let place : r + 1 + u ≡ suc (r + u) = omega arith in
          extended.difference u l
          ∙ difference_step (c (r + 1 + u)) (tail K.ops L σ d (r + 1 + u)) (d (r + 1 + u)) (extended.recurs u l)
          ∙ ap (λ (t : F). sub K.ops (c (r + 1 + u)) t) (ap d place ∙ extension_is_spectrum (r + u) (omega arith))
