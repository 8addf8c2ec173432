-- The distance lemma: a block of n symbols that vanishes at r consecutive powers of α and has at most r nonzero symbols is zero.
-- α has order n. Everything about distances in this project is this lemma again (the BCH bound; 000, section 2).
-- Holds: `powers_where`, the powers of α at the places of a test; `zero_of_vanishing` (the lemma); its consequences `coefficients_of_vanishing`
-- and `spectrum_injective`.
use mathlib.Core.Path.{◌≡◌, refl, sym, ap, ap₂, subst, ◌∙◌}
use mathlib.Core.Bool.{Bool, true, false, not, ◌&&◌}
use mathlib.Core.List.{List, [], ◌∷◌}
use Prim.Native.Nat.{ℕ, zero, suc, ◌+◌, ◌≤◌, ◌<◌}
use native.Mathlib.Nat.{zero-add as nat_zero_add}
use native.Mathlib.Omega.{arith}
use native.Mathlib.Decide.{dec_lt}
use lib.Dec.{eqb, ltb, T}
use lib.ListN.{length, get_or}
use borrow.Author.Tests.{eq-eqb, ne_eqb, lt-ltb, le-ltb}
use Rattle.algebra.specs.Ops.{Ops, sub, pick}
use Rattle.algebra.specs.Sum.{power}
use Rattle.algebra.specs.Polynomial.{value, from_roots}
use Rattle.algebra.specs.parts.Values.{value_of}
use Rattle.algebra.specs.Weight.{total, count_of, weight}
use Rattle.algebra.proofs.Laws.{Field, Tested, the_zero, non_zero, mul-zero, zero-mul, mul_comm, mul_eq_zero, eq_of_sub, add_neg}
use Rattle.algebra.proofs.HasOrder.{HasOrder}
use Rattle.algebra.proofs.Sums.{sum_zeros, sum_single}
use Rattle.algebra.proofs.Powers.{power_add, power_nonzero, root_nonzero}
use Rattle.algebra.proofs.Polynomials.{value_of_ext, value_of_short, value_of_sub, value_of_twist, In, here, there, value_at_root, value_off_roots}
use Rattle.algebra.proofs.Polynomials.{length_from_roots}
use Rattle.algebra.proofs.Pairing.{pairing}
use Rattle.algebra.proofs.Weights.{count_of_ext, count_of_le, count_of_without, weight_short, zero_test, nonzero_test}

-- The powers of α at the places below n where the test holds.
pub powers_where : {F : Type 0} → Ops F → F → (ℕ → Bool) → ℕ → List F
powers_where o α test zero = []
powers_where o α test (suc n) = pick (test n) (power o α n ∷ powers_where o α test n) (powers_where o α test n)

module _ {F : Type 0} (o : Ops F) (α : F) (test : ℕ → Bool) where
  pub length_powers_where : (n : ℕ) → length (powers_where o α test n) ≡ count_of n test
  unfolding powers_where total
  length_powers_where zero = refl
  length_powers_where (suc n) = at (test n) (length_powers_where n)
    where
      at : (b : Bool) → length (powers_where o α test n) ≡ count_of n test
          → length (pick b (power o α n ∷ powers_where o α test n) (powers_where o α test n)) ≡ count_of n test + pick b 1 0
      at true e = omega (arith, e)
      at false e = omega (arith, e)

  pub in_powers_where : (n i : ℕ) → i < n → test i ≡ true → In (power o α i) (powers_where o α test n)
  unfolding powers_where
  in_powers_where zero i l e = absurd (omega arith)
  in_powers_where (suc n) i l e = at (dec_lt i n) (λ s. in_powers_where n i s e)
    where
      keep : (b : Bool) → In (power o α i) (powers_where o α test n) → In (power o α i) (pick b (power o α n ∷ powers_where o α test n) (powers_where o α test n))
      keep true h = there h
      keep false h = h

      at : Dec (i < n) → (i < n → In (power o α i) (powers_where o α test n))
          → In (power o α i) (pick (test n) (power o α n ∷ powers_where o α test n) (powers_where o α test n))
      at (yes s) rest = keep (test n) (rest s)
      at (no d) rest =
          let same : i ≡ n = omega arith in
          subst (λ (m : ℕ). In (power o α i) (pick (test m) (power o α m ∷ powers_where o α test n) (powers_where o α test n))) same
          (subst (λ (b : Bool). In (power o α i) (pick b (power o α i ∷ powers_where o α test n) (powers_where o α test n))) (sym e) (here refl))

  pub of_powers_where : (n : ℕ) {x : F} → In x (powers_where o α test n) → (i : ℕ) × (i < n) × (test i ≡ true) × (x ≡ power o α i)
  unfolding powers_where
  of_powers_where zero h = elim h [ ]
  of_powers_where (suc n) {x} h = at (test n) refl h (λ s. of_powers_where n s)
    where
      more : (i : ℕ) × (i < n) × (test i ≡ true) × (x ≡ power o α i) → (i : ℕ) × (i < suc n) × (test i ≡ true) × (x ≡ power o α i)
      more w = (w.0, omega (arith, w.1), w.2, w.3)

      first : test n ≡ true → In x (power o α n ∷ powers_where o α test n)
          → (In x (powers_where o α test n) → (i : ℕ) × (i < n) × (test i ≡ true) × (x ≡ power o α i))
          → (i : ℕ) × (i < suc n) × (test i ≡ true) × (x ≡ power o α i)
      first e (here s) rest = (n, omega arith, e, s)
      first e (there s) rest = more (rest s)

      at : (b : Bool) → test n ≡ b → In x (pick b (power o α n ∷ powers_where o α test n) (powers_where o α test n))
          → (In x (powers_where o α test n) → (i : ℕ) × (i < n) × (test i ≡ true) × (x ≡ power o α i))
          → (i : ℕ) × (i < suc n) × (test i ≡ true) × (x ≡ power o α i)
      at true e s rest = first e s rest
      at false e s rest = more (rest s)

module _ {F : Type 0} (K : Field F) (n : ℕ) (α : F) (order : HasOrder K.ops n α) where
  infixl 70 ◌⊗◌
  open K.ops use {mul as ◌⊗◌, zero as 𝟘, one as 𝟙}

  -- The nonzero places of b other than p.
  elsewhere : (ℕ → F) → ℕ → ℕ → Bool
  elsewhere b p i = not (K.ops.is_zero (b i)) && not (eqb i p)

  and_right : (a b : Bool) → (a && b) ≡ true → b ≡ true
  and_right true b e = e
  and_right false b e = absurd (subst (λ (t : Bool). T (not t)) e tt)

  -- The product of (x - α^i) over the nonzero places other than p.
  locator : (ℕ → F) → ℕ → List F
  locator b p = from_roots K.ops (powers_where K.ops α (elsewhere b p) n)

  locator_at_other : (b : ℕ → F) (p i : ℕ) → i < n → (i ≡ p → ⊥) → b i ⊗ value K.ops (locator b p) (power K.ops α i) ≡ 𝟘
  unfolding locator elsewhere
  locator_at_other b p i l d = at (K.tested (b i)) refl
    where
      at : {t : Bool} → Tested 𝟘 (b i) t → K.ops.is_zero (b i) ≡ t → b i ⊗ value K.ops (locator b p) (power K.ops α i) ≡ 𝟘
      at (the_zero z) e =
          ap (λ (t : F). t ⊗ value K.ops (locator b p) (power K.ops α i)) z ∙ zero-mul K (value K.ops (locator b p) (power K.ops α i))
      at (non_zero h) e =
          ap (λ (t : F). b i ⊗ t) (value_at_root K (in_powers_where K.ops α (elsewhere b p) n i l
          (ap₂ (λ (s t : Bool). not s && not t) e (ne_eqb i p d))))
          ∙ mul-zero K (b i)

  locator_at_place : (b : ℕ → F) (p : ℕ) → p < n → value K.ops (locator b p) (power K.ops α p) ≡ 𝟘 → ⊥
  unfolding locator elsewhere
  locator_at_place b p l =
      value_off_roots K (powers_where K.ops α (elsewhere b p) n) (power K.ops α p)
      (λ a s e. other (of_powers_where K.ops α (elsewhere b p) n s) e)
    where
      other : {a : F} → (i : ℕ) × (i < n) × (elsewhere b p i ≡ true) × (a ≡ power K.ops α i) → power K.ops α p ≡ a → ⊥
      other w e =
          let same : p ≡ w.0 = order.distinct p w.0 l w.1 (e ∙ w.3) in
          let off : not (eqb w.0 p) ≡ true = and_right (not (K.ops.is_zero (b w.0))) (not (eqb w.0 p)) w.2 in
          subst (λ (t : Bool). T (not t)) (eq-eqb w.0 p (sym same)) (subst T (sym off) tt)

  -- The distance lemma at α^0 .. α^(r-1).
  zero_of_vanishing_first : (r : ℕ) (b : ℕ → F) → ((s : ℕ) → s < r → value_of K.ops n b (power K.ops α s) ≡ 𝟘)
      → weight K.ops n b ≤ r → (p : ℕ) → p < n → b p ≡ 𝟘
  unfolding locator elsewhere
  zero_of_vanishing_first r b vanishes light p l = at (K.tested (b p)) refl
    where
      length_locator : K.ops.is_zero (b p) ≡ false → length (locator b p) ≡ weight K.ops n b
      length_locator e =
          length_from_roots K.ops (powers_where K.ops α (elsewhere b p) n)
          ∙ (ap suc (length_powers_where K.ops α (elsewhere b p) n)
          ∙ sym (count_of_without n p (λ i. not (K.ops.is_zero (b i))) l (ap not e)))

      at : {t : Bool} → Tested 𝟘 (b p) t → K.ops.is_zero (b p) ≡ t → b p ≡ 𝟘
      at (the_zero z) e = z
      at (non_zero h) e =
          let short : length (locator b p) ≤ r = subst (λ (m : ℕ). m ≤ r) (sym (length_locator e)) light in
          absurd (locator_at_place b p l
          (mul_eq_zero K (b p) (value K.ops (locator b p) (power K.ops α p)) h
          (sym (sum_single K n p (λ i. b i ⊗ value K.ops (locator b p) (power K.ops α i)) l (locator_at_other b p))
          ∙ pairing K α n (locator b p) b
          ∙ sum_zeros K (length (locator b p)) (λ s. get_or (locator b p) s 𝟘 ⊗ value_of K.ops n b (power K.ops α s))
          (λ s u. ap (λ (t : F). get_or (locator b p) s 𝟘 ⊗ t) (vanishes s (omega arith)) ∙ mul-zero K (get_or (locator b p) s 𝟘)))))

  -- The distance lemma: a block that vanishes at α^c .. α^(c+r-1) and has at most r nonzero symbols is zero.
  pub zero_of_vanishing : (c r : ℕ) (b : ℕ → F) → ((s : ℕ) → s < r → value_of K.ops n b (power K.ops α (c + s)) ≡ 𝟘)
      → weight K.ops n b ≤ r → (p : ℕ) → p < n → b p ≡ 𝟘
  zero_of_vanishing c r b vanishes light p l =
      mul_eq_zero K (power K.ops (power K.ops α c) p) (b p) (unit p)
      (mul_comm K (power K.ops (power K.ops α c) p) (b p) ∙ zero_of_vanishing_first r twisted vanishes_twisted light_twisted p l)
    where
      unit : (i : ℕ) → power K.ops (power K.ops α c) i ≡ 𝟘 → ⊥
      unit = power_nonzero K (power K.ops α c) (power_nonzero K α (root_nonzero K n α order (omega arith)) c)

      twisted : ℕ → F
      twisted i = b i ⊗ power K.ops (power K.ops α c) i

      vanishes_twisted : (s : ℕ) → s < r → value_of K.ops n twisted (power K.ops α s) ≡ 𝟘
      vanishes_twisted s h =
          value_of_twist K n b (power K.ops α c) (power K.ops α s)
          ∙ ap (value_of K.ops n b) (sym (power_add K α c s)) ∙ vanishes s h

      same_test : (i : ℕ) → K.ops.is_zero (twisted i) ≡ K.ops.is_zero (b i)
      same_test i = at (K.tested (b i)) refl
        where
          at : {t : Bool} → Tested 𝟘 (b i) t → K.ops.is_zero (b i) ≡ t → K.ops.is_zero (twisted i) ≡ K.ops.is_zero (b i)
          at (the_zero z) e =
              zero_test K (twisted i) (ap (λ (t : F). t ⊗ power K.ops (power K.ops α c) i) z ∙ zero-mul K (power K.ops (power K.ops α c) i)) ∙ sym e
          at (non_zero h) e = nonzero_test K (twisted i) (λ z. unit i (mul_eq_zero K (b i) (power K.ops (power K.ops α c) i) h z)) ∙ sym e

      light_twisted : weight K.ops n twisted ≤ r
      light_twisted =
          subst (λ (w : ℕ). w ≤ r)
          (count_of_ext n (λ i. not (K.ops.is_zero (b i))) (λ i. not (K.ops.is_zero (twisted i))) (λ i u. ap not (sym (same_test i)))) light

  -- At most n coefficients whose polynomial vanishes at as many consecutive powers are zero.
  pub coefficients_of_vanishing : (c r : ℕ) (x : ℕ → F) → r ≤ n → ((s : ℕ) → s < r → value_of K.ops r x (power K.ops α (c + s)) ≡ 𝟘)
      → (i : ℕ) → i < r → x i ≡ 𝟘
  coefficients_of_vanishing c r x fits vanishes i l =
      sym (inside i l) ∙ zero_of_vanishing c r padded (λ s h. short (power K.ops α (c + s)) ∙ vanishes s h)
      (weight_short K r n padded (λ j u v. outside j u)) i (omega arith)
    where
      padded : ℕ → F
      padded j = pick (ltb j r) (x j) 𝟘

      inside : (j : ℕ) → j < r → padded j ≡ x j
      inside j h = ap (λ (t : Bool). pick t (x j) 𝟘) (lt-ltb j r h)

      outside : (j : ℕ) → r ≤ j → padded j ≡ 𝟘
      outside j h = ap (λ (t : Bool). pick t (x j) 𝟘) (le-ltb j r h)

      short : (y : F) → value_of K.ops n padded y ≡ value_of K.ops r x y
      short y = value_of_short K r n padded y fits (λ j u v. outside j u) ∙ value_of_ext K.ops r padded x y inside

  -- Two blocks with equal spectra are equal.
  pub spectrum_injective : (a b : ℕ → F) → ((s : ℕ) → s < n → value_of K.ops n a (power K.ops α s) ≡ value_of K.ops n b (power K.ops α s))
      → (i : ℕ) → i < n → a i ≡ b i
  spectrum_injective a b same i l =
      eq_of_sub K (a i) (b i)
      (zero_of_vanishing 0 n (λ j. sub K.ops (a j) (b j))
      (λ s h. value_of_sub K n a b (power K.ops α (0 + s))
      ∙ ap (λ (t : F). sub K.ops (value_of K.ops n a (power K.ops α (0 + s))) t)
      (ap (λ (t : ℕ). value_of K.ops n b (power K.ops α t)) (nat_zero_add s) ∙ sym (same s h)
      ∙ ap (λ (t : ℕ). value_of K.ops n a (power K.ops α t)) (sym (nat_zero_add s)))
      ∙ add_neg K (value_of K.ops n a (power K.ops α (0 + s))))
      (count_of_le n (λ j. not (K.ops.is_zero (sub K.ops (a j) (b j))))) i l)
