-- Unknown places, over any field with α of order n. A block is thinned by multiplying each symbol e_i by the product of (α^i - α^j) over the unknown places j:
-- that clears those places. On the spectrum it is a product with the factors (1 - α^j x), moved down by their number. So the known part of the thinned block's
-- spectrum has a locator as before, and that locator times the factors annihilates the whole spectrum of e.
-- Holds: `thinned`, `thinned_zero`, `thinned_unknown`; `factors_spectrum`, `annihilated_by_factors`.
use mathlib.Core.Path.{◌≡◌, refl, sym, ap, ap₂, ◌∙◌}
use mathlib.Core.Bool.{Bool, true, false}
use mathlib.Core.List.{List, [], ◌∷◌}
use Prim.Native.Nat.{ℕ, zero, suc, ◌+◌, ◌-◌, ◌≤◌, ◌<◌}
use native.Mathlib.Omega.{arith}
use native.Mathlib.Decide.{dec_lt}
use lib.ListN.{length}
use Rattle.algebra.specs.Ops.{sub, pick}
use Rattle.algebra.specs.Sum.{sum, power}
use Rattle.algebra.specs.Weight.{weight}
use Rattle.algebra.proofs.Laws.{Field, mul-zero, zero-mul, sub_self, ring}
use Rattle.algebra.proofs.Tests.{false_not_true}
use Rattle.algebra.proofs.HasOrder.{HasOrder}
use Rattle.algebra.proofs.Sums.{sum_ext, sum_add, sum_scale}
use Rattle.algebra.proofs.Polynomials.{value_of_ext, value_of_scale, value_of_sub, value_of_twist}
use Rattle.block.specs.parts.Locator.{convolution, Located, Subtracted}
use Rattle.block.specs.parts.Factors.{times_factor, times_factors, places_where}
use Rattle.block.proofs.LocatorStep.{convolution_short, convolution_subtracted}
use Rattle.block.proofs.ErrorSpectrum.{spectrum, against, recurs_of_light}

module _ {F : Type 0} (K : Field F) where
  infixl 60 ◌⊕◌
  infixl 70 ◌⊗◌
  infix 80 ⊖◌
  open K.ops use {add as ◌⊕◌, mul as ◌⊗◌, neg as ⊖◌, zero as 𝟘, one as 𝟙}

  -- A product with (1 - β x) is a series less its multiple, moved up by one place.
  factor_subtracted : (β : F) (count : ℕ) (σ : ℕ → F) → ((a : ℕ) → count ≤ a → σ a ≡ 𝟘) → Subtracted K.ops β 1 count σ σ (times_factor K.ops β σ)
  unfolding times_factor
  factor_subtracted β count σ short =
      record {
        before = λ i l. first i l;
        inside = λ i l. up i;
        after = λ i l. up i ∙ ap (λ (t : F). σ (1 + i) ⊕ ⊖ (β ⊗ t)) (short i l) ∙ nothing (σ (1 + i));
      }
    where
      nothing : (a : F) → a ⊕ ⊖ (β ⊗ 𝟘) ≡ a
      nothing a = simp ring

      first : (i : ℕ) → i < 1 → times_factor K.ops β σ i ≡ σ i
      first zero l = refl
      first (suc i) l = absurd (omega arith)

      up : (i : ℕ) → times_factor K.ops β σ (1 + i) ≡ σ (1 + i) ⊕ ⊖ (β ⊗ σ i)
      up i = let place : 1 + i ≡ suc i = omega arith in ap (times_factor K.ops β σ) place ∙ ap (λ (t : ℕ). σ t ⊕ ⊖ (β ⊗ σ i)) (sym place)

  factor_short : (β : F) (L : ℕ) (σ : ℕ → F) → ((a : ℕ) → L < a → σ a ≡ 𝟘) → (a : ℕ) → suc L < a → times_factor K.ops β σ a ≡ 𝟘
  unfolding times_factor
  factor_short β L σ short zero l = absurd (omega arith)
  factor_short β L σ short (suc a) l = ap₂ (λ (s t : F). s ⊕ ⊖ (β ⊗ t)) (short (suc a) (omega arith)) (short a (omega arith)) ∙ simp ring

  module _ (α : F) (σ : ℕ → F) where
    factors_short : (L : ℕ) → ((a : ℕ) → L < a → σ a ≡ 𝟘) → (places : List ℕ) (a : ℕ) → L + length places < a → times_factors K.ops α places σ a ≡ 𝟘
    unfolding times_factors
    factors_short L short [] a l = short a (omega arith)
    factors_short L short (p ∷ places) a l =
        factor_short (power K.ops α p) (L + length places) (times_factors K.ops α places σ) (factors_short L short places) a (omega arith)

  module _ (n : ℕ) (α : F) (order : HasOrder K.ops n α) where
    -- Each symbol multiplied by the difference of its point and that of a place.
    abbrev thin : ℕ → (ℕ → F) → ℕ → F
    thin p e i = e i ⊗ sub K.ops (power K.ops α i) (power K.ops α p)

    -- The same for each of these places.
    unfoldable pub thinned : List ℕ → (ℕ → F) → ℕ → F
    thinned [] e = e
    thinned (p ∷ places) e = thin p (thinned places e)

    spread : (x a b : F) → x ⊗ a ⊕ ⊖ (b ⊗ x) ≡ x ⊗ (a ⊕ ⊖ b)
    spread x a b = simp ring

    spectrum_thin : (p : ℕ) (e : ℕ → F) (s : ℕ)
        → sub K.ops (spectrum K n α order e (suc s)) (power K.ops α p ⊗ spectrum K n α order e s) ≡ spectrum K n α order (thin p e) s
    unfolding power
    spectrum_thin p e s =
        ap₂ (sub K.ops) (sym (value_of_twist K n e α (power K.ops α s))) (sym (value_of_scale K n (power K.ops α p) e (power K.ops α s)))
        ∙ sym (value_of_sub K n (λ i. e i ⊗ power K.ops α i) (λ i. power K.ops α p ⊗ e i) (power K.ops α s))
        ∙ value_of_ext K.ops n (λ i. sub K.ops (e i ⊗ power K.ops α i) (power K.ops α p ⊗ e i)) (thin p e) (power K.ops α s)
        (λ i l. spread (e i) (power K.ops α i) (power K.ops α p))

    -- A factor moves from the series to the block.
    gather : (a x y b : F) → a ⊗ x ⊕ ⊖ b ⊗ (a ⊗ y) ≡ a ⊗ (x ⊕ ⊖ (b ⊗ y))
    gather a x y b = simp ring

    against_factor : (p L : ℕ) (σ e : ℕ → F) (s : ℕ) → ((a : ℕ) → L < a → σ a ≡ 𝟘)
        → against K n α order (suc L) (times_factor K.ops (power K.ops α p) σ) e s ≡ against K n α order L σ (thin p e) s
    against_factor p L σ e s short =
        sym (convolution_short K (suc L) (times_factor K.ops β σ) (spectrum K n α order e) (factor_short β L σ short) (suc L + s) (omega arith))
        ∙ ap (convolution K.ops (times_factor K.ops β σ) (spectrum K n α order e)) place
        ∙ convolution_subtracted K β 1 (suc L) σ σ (times_factor K.ops β σ) (factor_subtracted β (suc L) σ (λ a l. short a (omega arith)))
        (λ a l. short a (omega arith)) (spectrum K n α order e) (L + s)
        ∙ ap₂ (λ (x y : F). x ⊕ ⊖ (β ⊗ y))
        (convolution_short K L σ (spectrum K n α order e) short (1 + (L + s)) (omega arith))
        (convolution_short K L σ (spectrum K n α order e) short (L + s) (omega arith))
        ∙ negated (sum K.ops (suc L) above) (sum K.ops (suc L) below)
        ∙ ap (λ (t : F). sum K.ops (suc L) above ⊕ t) (sym (sum_scale K (suc L) (⊖ β) below))
        ∙ sym (sum_add K (suc L) above (λ a. ⊖ β ⊗ below a))
        ∙ sum_ext K.ops (suc L) (λ a. above a ⊕ ⊖ β ⊗ below a) (λ a. σ a ⊗ spectrum K n α order (thin p e) (L + s - a))
        (λ a l. ap (λ (t : ℕ). σ a ⊗ spectrum K n α order e t ⊕ ⊖ β ⊗ below a) (next a l)
        ∙ gather (σ a) (spectrum K n α order e (suc (L + s - a))) (spectrum K n α order e (L + s - a)) β
        ∙ ap (λ (t : F). σ a ⊗ t) (spectrum_thin p e (L + s - a)))
      where
        β : F
        β = power K.ops α p

        place : suc L + s ≡ 1 + (L + s)
        place = omega arith

        above : ℕ → F
        above a = σ a ⊗ spectrum K n α order e (1 + (L + s) - a)

        below : ℕ → F
        below a = σ a ⊗ spectrum K n α order e (L + s - a)

        next : (a : ℕ) → a < suc L → 1 + (L + s) - a ≡ suc (L + s - a)
        next a l = omega arith

        negated : (x y : F) → x ⊕ ⊖ (β ⊗ y) ≡ x ⊕ ⊖ β ⊗ y
        negated x y = simp ring

    -- Which place is thinned first does not matter.
    exchange : (x y z : F) → x ⊗ y ⊗ z ≡ x ⊗ z ⊗ y
    exchange x y z = simp ring

    thinned_thin : (places : List ℕ) (p : ℕ) (e : ℕ → F) (i : ℕ) → thinned places (thin p e) i ≡ thin p (thinned places e) i
    unfolding thinned
    thinned_thin [] p e i = refl
    thinned_thin (a ∷ places) p e i =
        ap (λ (t : F). t ⊗ sub K.ops (power K.ops α i) (power K.ops α a)) (thinned_thin places p e i)
        ∙ exchange (thinned places e i) (sub K.ops (power K.ops α i) (power K.ops α p)) (sub K.ops (power K.ops α i) (power K.ops α a))

    against_ext : (L : ℕ) (σ a b : ℕ → F) (s : ℕ) → ((i : ℕ) → a i ≡ b i) → against K n α order L σ a s ≡ against K n α order L σ b s
    against_ext L σ a b s same =
        sum_ext K.ops (suc L) (λ i. σ i ⊗ spectrum K n α order a (L + s - i)) (λ i. σ i ⊗ spectrum K n α order b (L + s - i))
        (λ i l. ap (λ (t : F). σ i ⊗ t) (value_of_ext K.ops n a b (power K.ops α (L + s - i)) (λ j h. same j)))

    -- A series times the factors, against a block: the series against the thinned block.
    against_factors : (L : ℕ) (σ : ℕ → F) → ((a : ℕ) → L < a → σ a ≡ 𝟘) → (places : List ℕ) (e : ℕ → F) (s : ℕ)
        → against K n α order (L + length places) (times_factors K.ops α places σ) e s ≡ against K n α order L σ (thinned places e) s
    unfolding times_factors thinned
    against_factors L σ short [] e s = let same : L + 0 ≡ L = omega arith in ap (λ (t : ℕ). against K n α order t σ e s) same
    against_factors L σ short (p ∷ places) e s =
        let place : L + suc (length places) ≡ suc (L + length places) = omega arith in
        ap (λ (t : ℕ). against K n α order t (times_factor K.ops (power K.ops α p) (times_factors K.ops α places σ)) e s) place
        ∙ against_factor p (L + length places) (times_factors K.ops α places σ) e s (factors_short α σ L short places)
        ∙ against_factors L σ short places (thin p e) s
        ∙ against_ext L σ (thinned places (thin p e)) (thin p (thinned places e)) s (thinned_thin places p e)

    -- What is known of a spectrum, multiplied by the factors, is the spectrum of the thinned block, from the place of their number on.
    pub factors_spectrum : (r : ℕ) (e c : ℕ → F) → ((s : ℕ) → s < r → c (suc s) ≡ spectrum K n α order e s) → (places : List ℕ) (s : ℕ)
        → length places + s < r → times_factors K.ops α places c (suc (length places + s)) ≡ spectrum K n α order (thinned places e) s
    unfolding times_factors times_factor thinned
    factors_spectrum r e c known [] s l = let same : 0 + s ≡ s = omega arith in ap (λ (t : ℕ). c (suc t)) same ∙ known s (omega arith)
    factors_spectrum r e c known (p ∷ places) s l =
        let here : suc (length places) + s ≡ suc (length places + s) = omega arith in
        let next : suc (length places) + s ≡ length places + suc s = omega arith in
        ap₂ (λ (x y : F). sub K.ops x (power K.ops α p ⊗ y))
        (ap (λ (t : ℕ). times_factors K.ops α places c (suc t)) next ∙ factors_spectrum r e c known places (suc s) (omega arith))
        (ap (times_factors K.ops α places c) here ∙ factors_spectrum r e c known places s (omega arith))
        ∙ spectrum_thin p (thinned places e) s

    -- The thinned block is zero where the block is ..
    pub thinned_zero : (places : List ℕ) (e : ℕ → F) (i : ℕ) → e i ≡ 𝟘 → thinned places e i ≡ 𝟘
    unfolding thinned
    thinned_zero [] e i z = z
    thinned_zero (p ∷ places) e i z =
        ap (λ (t : F). t ⊗ sub K.ops (power K.ops α i) (power K.ops α p)) (thinned_zero places e i z)
        ∙ zero-mul K (sub K.ops (power K.ops α i) (power K.ops α p))

    -- .. and at the places.
    pub thinned_unknown : (unknown : ℕ → Bool) (t : ℕ) (e : ℕ → F) (i : ℕ) → i < t → unknown i ≡ true → thinned (places_where unknown t) e i ≡ 𝟘
    unfolding thinned places_where
    thinned_unknown unknown zero e i l h = absurd (omega arith)
    thinned_unknown unknown (suc t) e i l h = at (dec_lt i t) (unknown t) refl (λ u. thinned_unknown unknown t e i u h)
      where
        at : Dec (i < t) → (b : Bool) → unknown t ≡ b → (i < t → thinned (places_where unknown t) e i ≡ 𝟘)
            → thinned (pick b (t ∷ places_where unknown t) (places_where unknown t)) e i ≡ 𝟘
        at (yes u) true s rest =
            ap (λ (x : F). x ⊗ sub K.ops (power K.ops α i) (power K.ops α t)) (rest u) ∙ zero-mul K (sub K.ops (power K.ops α i) (power K.ops α t))
        at (yes u) false s rest = rest u
        at (no d) true s rest =
            let same : i ≡ t = omega arith in
            ap (λ (x : F). thinned (places_where unknown t) e i ⊗ x)
            (ap (λ (j : ℕ). sub K.ops (power K.ops α j) (power K.ops α t)) same ∙ sub_self K (power K.ops α t))
            ∙ mul-zero K (thinned (places_where unknown t) e i)
        at (no d) false s rest = let same : i ≡ t = omega arith in absurd (false_not_true (sym s ∙ ap unknown (sym same) ∙ h))

    -- A locator of the thinned block's known values, times the factors, annihilates the whole spectrum of e.
    pub annihilated_by_factors : (places : List ℕ) (r : ℕ) (e f : ℕ → F)
        → ((s : ℕ) → s < r → f (suc s) ≡ spectrum K n α order (thinned places e) s)
        → (L p : ℕ) (scale : F) (σ τ : ℕ → F) → Located K.ops f r L p scale σ τ → (w : ℕ) → weight K.ops n (thinned places e) ≤ w → w + w ≤ r
        → (s : ℕ) → against K n α order (L + length places) (times_factors K.ops α places σ) e s ≡ 𝟘
    annihilated_by_factors places r e f known L p scale σ τ located w light small s =
        against_factors L σ located.short places e s
        ∙ recurs_of_light K n α order r (thinned places e) f known L p scale σ τ located w light small s
