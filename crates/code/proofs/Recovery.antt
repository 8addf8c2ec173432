-- The information block is recovered from its part of the spectrum, over any field, α of order n and k ≤ n.
-- Holds: `part_injective` (the part of the spectrum determines the block), `recovered_step` (one symbol more), `recovered_part` (what is recovered has
-- that part), `recover` and `recover_part` (every k values are the part of a block).
use mathlib.Core.Path.{◌≡◌, refl, sym, ap, ap₂, subst, ◌∙◌}
use mathlib.Core.Bool.{Bool}
use mathlib.Core.List.{◌++◌}
use Prim.Native.Nat.{ℕ, zero, suc, ◌+◌, ◌-◌, ◌*◌, ◌≤◌, ◌<◌}
use native.Mathlib.Omega.{arith}
use native.Mathlib.Decide.{ℕ_discrete}
use lib.Dec.{eqb}
use lib.ListN.{get_or, replicate, length-replicate, get_or-eq_default}
use lib.Seq.{get_or-append-add}
use borrow.Author.Tests.{eq-eqb, ne_eqb}
use Rattle.algebra.specs.Ops.{sub, pick}
use Rattle.algebra.specs.Sum.{sum, power}
use Rattle.algebra.specs.Polynomial.{value}
use Rattle.algebra.specs.parts.Values.{value_of, falling}
use Rattle.algebra.proofs.Laws.{Field, mul_one, mul_eq_zero, add_assoc, add_left_comm, add_neg, add-zero, eq_of_sub, sub_self, ring}
use Rattle.algebra.proofs.HasOrder.{HasOrder}
use Rattle.algebra.proofs.Sums.{sum_ext, sum_add, sum_single}
use Rattle.algebra.proofs.Polynomials.{value_of_ext, value_of_sub, monic_from_roots}
use Rattle.algebra.proofs.Weights.{weight_short}
use Rattle.algebra.proofs.Distance.{zero_of_vanishing, coefficients_of_vanishing}
use Rattle.algebra.proofs.Synthesis.{power_back, synthesis, synthesis_low, synthesis_high}
use Rattle.code.specs.Code.{Code}
use Rattle.code.specs.Generator.{points, generator_polynomial, row_symbol, times_g}
use Rattle.code.specs.parts.Recovery.{ending, Recovered}
use Rattle.code.proofs.Blocks.{code_over, length_points, length_generator_polynomial, generator_polynomial_nonzero, part, part_low, value_of_times_g}

module _ {F : Type 0} (K : Field F) (α : F) (n k m : ℕ) where
  infixl 60 ◌⊕◌
  infixl 70 ◌⊗◌
  infix 80 ⊖◌
  open K.ops use {add as ◌⊕◌, mul as ◌⊗◌, neg as ⊖◌, zero as 𝟘, one as 𝟙}

  abbrev c : Code F
  c = code_over K α n k m

  abbrev pow : ℕ → F
  pow i = power K.ops α i

  row_at : (r d : ℕ) → row_symbol c 0 r (r + d) ≡ get_or (generator_polynomial c) d 𝟘
  unfolding row_symbol power
  row_at r d =
      ap₂ ◌⊗◌ (ap (λ (t : ℕ). get_or (replicate r 𝟘 ++ generator_polynomial c) (t + d) 𝟘) (sym (length-replicate r 𝟘))
      ∙ get_or-append-add (replicate r 𝟘) (generator_polynomial c) d 𝟘)
      (let none : 0 * k * (r + d) ≡ 0 = omega arith in ap pow none)
      ∙ mul_one K (get_or (generator_polynomial c) d 𝟘)

  -- The rows of G_0 end in 1, row r at place n-k+r.
  row_one : (j : ℕ) → j < k → k ≤ n → row_symbol c 0 (k - suc j) (n - suc j) ≡ 𝟙
  unfolding generator_polynomial
  row_one j l fits =
      let place : n - suc j ≡ k - suc j + (n - k) = omega arith in
      ap (row_symbol c 0 (k - suc j)) place ∙ row_at (k - suc j) (n - k)
      ∙ ap (λ (t : ℕ). get_or (generator_polynomial c) t 𝟘) (sym (length_points K.ops α (n - k))) ∙ monic_from_roots K.ops (points K.ops α (n - k))

  row_zero : (r j : ℕ) → r + suc j < k → k ≤ n → row_symbol c 0 r (n - suc j) ≡ 𝟘
  row_zero r j l fits =
      let place : n - suc j ≡ r + (n - suc j - r) = omega arith in
      ap (row_symbol c 0 r) place ∙ row_at r (n - suc j - r)
      ∙ get_or-eq_default (generator_polynomial c) 𝟘 (omega (arith, length_generator_polynomial K α n k m))

  sub_back : (a b : F) → a ⊕ (b ⊕ ⊖ a) ≡ b
  sub_back a b = add_left_comm K a b (⊖ a) ∙ ap (λ (t : F). b ⊕ t) (add_neg K a) ∙ add-zero K b

  change_step : (x y d : F) → y ⊗ d ≡ x ⊗ d ⊕ (y ⊕ ⊖ x) ⊗ d
  change_step x y d = sym (ap (λ (t : F). x ⊗ d ⊕ t) (spread x y d) ∙ sub_back (x ⊗ d) (y ⊗ d))
    where
      spread : (x y d : F) → (y ⊕ ⊖ x) ⊗ d ≡ y ⊗ d ⊕ ⊖ (x ⊗ d)
      spread x y d = simp ring

  -- One symbol of the block changed.
  times_g_change : (x y : ℕ → F) (p i : ℕ) → p < k → ((r : ℕ) → r < k → (r ≡ p → ⊥) → y r ≡ x r)
      → times_g c y 0 i ≡ times_g c x 0 i ⊕ sub K.ops (y p) (x p) ⊗ row_symbol c 0 p i
  unfolding times_g
  times_g_change x y p i l same =
      sum_ext K.ops k _ (λ r. x r ⊗ row_symbol c 0 r i ⊕ sub K.ops (y r) (x r) ⊗ row_symbol c 0 r i) (λ r h. change_step (x r) (y r) (row_symbol c 0 r i))
      ∙ sum_add K k (λ r. x r ⊗ row_symbol c 0 r i) (λ r. sub K.ops (y r) (x r) ⊗ row_symbol c 0 r i)
      ∙ ap (λ (t : F). sum K.ops k (λ r. x r ⊗ row_symbol c 0 r i) ⊕ t)
      (sum_single K k p (λ r. sub K.ops (y r) (x r) ⊗ row_symbol c 0 r i) l
      (λ r h d. ap (λ (t : F). sub K.ops t (x r) ⊗ row_symbol c 0 r i) (same r h d) ∙ gone (x r) (row_symbol c 0 r i)))
    where
      gone : (a d : F) → (a ⊕ ⊖ a) ⊗ d ≡ 𝟘
      gone a d = simp ring

  -- One symbol more: what the block before it lacks is added to the symbol, whatever it was.
  pub recovered_step : (v x y : ℕ → F) (j : ℕ) → j < k → k ≤ n → Recovered c v j x → ((r : ℕ) → r < k → (r ≡ k - suc j → ⊥) → y r ≡ x r)
      → y (k - suc j) ≡ x (k - suc j) ⊕ sub K.ops (ending c v (suc j)) (times_g c x 0 (n - suc j)) → Recovered c v (suc j) y
  recovered_step v x y j l fits before same new = record { symbol = λ a h. at a h (ℕ_discrete a j) }
    where
      fill : (u e g : F) → g ⊕ ((u ⊕ (e ⊕ ⊖ g)) ⊕ ⊖ u) ⊗ 𝟙 ≡ e
      fill u e g =
          ap (λ (t : F). g ⊕ t) (mul_one K ((u ⊕ (e ⊕ ⊖ g)) ⊕ ⊖ u) ∙ add_assoc K u (e ⊕ ⊖ g) (⊖ u) ∙ sub_back u (e ⊕ ⊖ g)) ∙ sub_back g e

      keep : (g d : F) → g ⊕ d ⊗ 𝟘 ≡ g
      keep g d = simp ring

      at : (a : ℕ) → a < suc j → Dec (a ≡ j) → times_g c y 0 (n - suc a) ≡ ending c v (suc a)
      at a h (yes e) =
          subst (λ (a : ℕ). times_g c y 0 (n - suc a) ≡ ending c v (suc a)) (sym e)
          (times_g_change x y (k - suc j) (n - suc j) (omega arith) same
          ∙ ap₂ (λ (s t : F). times_g c x 0 (n - suc j) ⊕ sub K.ops s (x (k - suc j)) ⊗ t) new (row_one j l fits)
          ∙ fill (x (k - suc j)) (ending c v (suc j)) (times_g c x 0 (n - suc j)))
      at a h (no d) =
          times_g_change x y (k - suc j) (n - suc a) (omega arith) same
          ∙ ap (λ (t : F). times_g c x 0 (n - suc a) ⊕ sub K.ops (y (k - suc j)) (x (k - suc j)) ⊗ t) (row_zero (k - suc j) a (omega arith) fits)
          ∙ keep (times_g c x 0 (n - suc a)) (sub K.ops (y (k - suc j)) (x (k - suc j))) ∙ before.symbol a (omega arith)

  -- From the last symbol on.
  recover_to : (ℕ → F) → ℕ → ℕ → F
  recover_to v zero r = 𝟘
  recover_to v (suc j) r =
      pick (eqb r (k - suc j)) (recover_to v j r ⊕ sub K.ops (ending c v (suc j)) (times_g c (recover_to v j) 0 (n - suc j))) (recover_to v j r)

  pub recover : (ℕ → F) → ℕ → F
  recover v = recover_to v k

  recovered_to : (v : ℕ → F) (j : ℕ) → j ≤ k → k ≤ n → Recovered c v j (recover_to v j)
  unfolding recover_to
  recovered_to v zero l fits = record { symbol = λ a h. absurd (omega arith) }
  recovered_to v (suc j) l fits =
      recovered_step v (recover_to v j) (recover_to v (suc j)) j l fits (recovered_to v j (omega arith) fits)
      (λ r h d. ap (λ (t : Bool). pick t (recover_to v j r ⊕ sub K.ops (ending c v (suc j)) (times_g c (recover_to v j) 0 (n - suc j))) (recover_to v j r))
      (ne_eqb r (k - suc j) d))
      (ap (λ (t : Bool). pick t (recover_to v j (k - suc j) ⊕ sub K.ops (ending c v (suc j)) (times_g c (recover_to v j) 0 (n - suc j)))
      (recover_to v j (k - suc j))) (eq-eqb (k - suc j) (k - suc j) refl))

  module _ (order : HasOrder K.ops n α) where
    cancel_step : (a b f : F) → a ⊗ f ≡ b ⊗ f → f ⊗ (a ⊕ ⊖ b) ≡ 𝟘
    cancel_step a b f e = spread a b f ∙ ap (λ (t : F). t ⊕ ⊖ (b ⊗ f)) e ∙ sub_self K (b ⊗ f)
      where
        spread : (a b f : F) → f ⊗ (a ⊕ ⊖ b) ≡ a ⊗ f ⊕ ⊖ (b ⊗ f)
        spread a b f = simp ring

    -- Blocks with the same part of the spectrum are the same.
    pub part_injective : (x y : ℕ → F) → k ≤ n → ((e : ℕ) → e < k → part K α n k m x (n - k + e) ≡ part K α n k m y (n - k + e)) → (r : ℕ) → r < k → x r ≡ y r
    unfolding part
    part_injective x y fits same r l =
        eq_of_sub K (x r) (y r)
        (coefficients_of_vanishing K n α order (n - k) k (λ i. sub K.ops (x i) (y i)) fits
        (λ e h. value_of_sub K k x y (pow (n - k + e))
        ∙ mul_eq_zero K (value K.ops (generator_polynomial c) (pow (n - k + e)))
        (sub K.ops (value_of K.ops k x (pow (n - k + e))) (value_of K.ops k y (pow (n - k + e))))
        (generator_polynomial_nonzero K α n k m order (n - k + e) (omega arith) (omega arith))
        (cancel_step (value_of K.ops k x (pow (n - k + e))) (value_of K.ops k y (pow (n - k + e)))
        (value K.ops (generator_polynomial c) (pow (n - k + e))) (same e h)))
        r l)

    abbrev block : (ℕ → F) → ℕ → F
    block v = synthesis K n α order k v

    value_of_product : (x : ℕ → F) (s : ℕ) → k ≤ n → value_of K.ops n (times_g c x 0) (pow s) ≡ part K α n k m x s
    unfolding part power
    value_of_product x s fits =
        value_of_times_g K α n k m x 0 (pow s) fits ∙ ap (λ (t : F). value_of K.ops k x t ⊗ value K.ops (generator_polynomial c) t) (at (pow s))
      where
        at : (y : F) → pow (0 * k) ⊗ y ≡ y
        at y = let none : 0 * k ≡ 0 = omega arith in ap (λ (t : ℕ). pow t ⊗ y) none ∙ simp ring

    -- What is recovered × G_0 is the block.
    product_is_block : (v x : ℕ → F) → 0 < n → k ≤ n → Recovered c v k x → (i : ℕ) → i < n → times_g c x 0 i ≡ block v i
    unfolding synthesis ending
    product_is_block v x some fits h i l =
        eq_of_sub K (times_g c x 0 i) (block v i)
        (zero_of_vanishing K n α order 0 (n - k) (λ i. sub K.ops (times_g c x 0 i) (block v i))
        (λ s u. let same : 0 + s ≡ s = omega arith in
        value_of_sub K n (times_g c x 0) (block v) (pow (0 + s))
        ∙ ap₂ (sub K.ops) (ap (λ (t : ℕ). value_of K.ops n (times_g c x 0) (pow t)) same ∙ value_of_product x s fits ∙ part_low K α n k m x s u)
        (ap (λ (t : ℕ). value_of K.ops n (block v) (pow t)) same ∙ synthesis_low K n α order k v s (omega arith))
        ∙ sub_self K 𝟘)
        (weight_short K (n - k) n (λ i. sub K.ops (times_g c x 0 i) (block v i)) (λ i u w. high i u w)) i l)
      where
        high : (i : ℕ) → n - k ≤ i → i < n → sub K.ops (times_g c x 0 i) (block v i) ≡ 𝟘
        high i u w =
            let place : n - suc (n - suc i) ≡ i = omega arith in
            ap (λ (t : F). sub K.ops t (block v i))
            (ap (times_g c x 0) (sym place) ∙ h.symbol (n - suc i) (omega arith)
            ∙ ap (λ (t : F). ⊖ falling K.ops k v t) (power_back K n α order (suc (n - suc i)) (omega arith) some ∙ ap pow place))
            ∙ sub_self K (block v i)

    -- What is recovered has the part of the spectrum that it was recovered from.
    pub recovered_part : (v x : ℕ → F) → k ≤ n → Recovered c v k x → (e : ℕ) → e < k → part K α n k m x (n - k + e) ≡ v e
    recovered_part v x fits h e l =
        sym (value_of_product x (n - k + e) fits)
        ∙ value_of_ext K.ops n (times_g c x 0) (block v) (pow (n - k + e)) (product_is_block v x (omega arith) fits h)
        ∙ synthesis_high K n α order k v e fits l

    -- Every k values are the part of the spectrum of a block.
    pub recover_part : (v : ℕ → F) → k ≤ n → (e : ℕ) → e < k → part K α n k m (recover v) (n - k + e) ≡ v e
    unfolding recover
    recover_part v fits = recovered_part v (recover v) fits (recovered_to v k (omega arith) fits)
