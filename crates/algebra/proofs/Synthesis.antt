-- The inverse of the spectrum (the inverse discrete Fourier transform): from k values the block of n symbols that has them as the last k values of its
-- spectrum, and zeros before. α has order n.
-- Holds: `geometric`; `power_back` (the powers of 1/α); `synthesis`, `synthesis_low`, `synthesis_high`.
use mathlib.Core.Path.{◌≡◌, sym, ap, ap₂, ◌∙◌}
use Prim.Native.Nat.{ℕ, zero, suc, ◌+◌, ◌-◌, ◌≤◌, ◌<◌}
use native.Mathlib.Nat.{mul_comm as nat_mul_comm}
use native.Mathlib.Omega.{arith}
use native.Mathlib.Decide.{dec_lt}
use Rattle.algebra.specs.Ops.{sub}
use Rattle.algebra.specs.Sum.{power}
use Rattle.algebra.specs.parts.Values.{value_of, falling}
use Rattle.algebra.proofs.Laws.{Field, add_cancel, add_comm, add_neg, one-mul, mul_assoc, mul_left_comm, neg_zero, mul_eq_zero, eq_of_sub, ring}
use Rattle.algebra.proofs.HasOrder.{HasOrder}
use Rattle.algebra.proofs.Powers.{power_power, power_of_one, root_nonzero}
use Rattle.algebra.proofs.Polynomials.{value_of_ext, value_of_add, value_of_scale, value_of_zeros, value_of_twist, value_of_at_one}

module _ {F : Type 0} (K : Field F) where
  infixl 60 ◌⊕◌
  infixl 70 ◌⊗◌
  infix 80 ⊖◌
  open K.ops use {add as ◌⊕◌, mul as ◌⊗◌, neg as ⊖◌, zero as 𝟘, one as 𝟙}

  -- 1 + z + .. + z^(n-1)
  abbrev ones : ℕ → F → F
  ones n z = value_of K.ops n (λ i. 𝟙) z

  ones_nil : (z : F) → 𝟙 ⊕ z ⊗ 𝟘 ≡ 𝟘 ⊕ 𝟙
  ones_nil z = simp ring

  ones_step : (z s p : F) → 𝟙 ⊕ z ⊗ s ≡ s ⊕ p → 𝟙 ⊕ z ⊗ (𝟙 ⊕ z ⊗ s) ≡ (𝟙 ⊕ z ⊗ s) ⊕ z ⊗ p
  ones_step z s p h = ap (λ (t : F). 𝟙 ⊕ z ⊗ t) h ∙ simp ring

  telescope : (n : ℕ) (z : F) → 𝟙 ⊕ z ⊗ ones n z ≡ ones n z ⊕ power K.ops z n
  unfolding value_of power
  telescope zero z = ones_nil z
  telescope (suc n) z = ones_step z (ones n z) (power K.ops z n) (telescope n z)

  fixed : (z s : F) → 𝟙 ⊕ z ⊗ s ≡ s ⊕ 𝟙 → (z ⊕ ⊖ 𝟙) ⊗ s ≡ 𝟘
  fixed z s h = spread z s ∙ ap (λ (t : F). t ⊕ ⊖ s) (add_cancel K 𝟙 (z ⊗ s) s (h ∙ add_comm K s 𝟙)) ∙ add_neg K s
    where
      spread : (z s : F) → (z ⊕ ⊖ 𝟙) ⊗ s ≡ z ⊗ s ⊕ ⊖ s
      spread z s = simp ring

  -- It is zero where z^n = 1 and z is not 1.
  pub geometric : (n : ℕ) (z : F) → power K.ops z n ≡ 𝟙 → (z ≡ 𝟙 → ⊥) → ones n z ≡ 𝟘
  geometric n z e d =
      mul_eq_zero K (sub K.ops z 𝟙) (ones n z) (λ h. d (eq_of_sub K z 𝟙 h)) (fixed z (ones n z) (telescope n z ∙ ap (λ (t : F). ones n z ⊕ t) e))

  module _ (n : ℕ) (α : F) (order : HasOrder K.ops n α) where
    abbrev pow : ℕ → F
    pow i = power K.ops α i

    -- The powers of 1/α are those of α from the end.
    pub power_back : (j : ℕ) → j ≤ n → 0 < n → power K.ops (K.ops.inv α) j ≡ pow (n - j)
    unfolding power
    power_back zero l h = let whole : n ≡ n - 0 = omega arith in sym order.full ∙ ap pow whole
    power_back (suc j) l h =
        let next : n - j ≡ suc (n - suc j) = omega arith in
        ap (λ (t : F). K.ops.inv α ⊗ t) (power_back j (omega arith) h ∙ ap pow next)
        ∙ back_step α (K.ops.inv α) (pow (n - suc j)) (K.inverse α (root_nonzero K n α order h))
      where
        back_step : (a b p : F) → a ⊗ b ≡ 𝟙 → b ⊗ (a ⊗ p) ≡ p
        back_step a b p e = mul_left_comm K b a p ∙ sym (mul_assoc K a b p) ∙ ap (λ (t : F). t ⊗ p) e ∙ one-mul K p

    ones_off : (t : ℕ) → 0 < t → t < n → ones n (pow t) ≡ 𝟘
    unfolding power
    ones_off t low high =
        geometric n (pow t)
        (power_power K α t n ∙ ap pow (nat_mul_comm t n) ∙ sym (power_power K α n t) ∙ ap (λ (a : F). power K.ops a t) order.full ∙ power_of_one K t)
        (λ e. omega (arith, order.distinct t 0 high (omega arith) e))

    -- Symbol i of the block that has the values v.
    unfoldable pub synthesis : ℕ → (ℕ → F) → ℕ → F
    synthesis k v i = ⊖ falling K.ops k v (pow i)

    regroup : (f v y : F) → ⊖ ((f ⊕ v) ⊗ y) ≡ (⊖ f ⊕ ⊖ v ⊗ 𝟙) ⊗ y
    regroup f v y = simp ring

    -- One value more moves the spectrum down by one place.
    synthesis_step : (k : ℕ) (v : ℕ → F) (s : ℕ)
        → value_of K.ops n (synthesis (suc k) v) (pow s) ≡ value_of K.ops n (synthesis k v) (pow (suc s)) ⊕ ⊖ v k ⊗ ones n (pow (suc s))
    unfolding synthesis falling power
    synthesis_step k v s =
        value_of_ext K.ops n (synthesis (suc k) v) (λ i. (synthesis k v i ⊕ ⊖ v k ⊗ 𝟙) ⊗ pow i) (pow s)
        (λ i l. regroup (falling K.ops k v (pow i)) (v k) (pow i))
        ∙ value_of_twist K n (λ i. synthesis k v i ⊕ ⊖ v k ⊗ 𝟙) α (pow s)
        ∙ value_of_add K n (synthesis k v) (λ i. ⊖ v k ⊗ 𝟙) (pow (suc s))
        ∙ ap (λ (t : F). value_of K.ops n (synthesis k v) (pow (suc s)) ⊕ t) (value_of_scale K n (⊖ v k) (λ i. 𝟙) (pow (suc s)))

    both_zero : (a : F) → 𝟘 ⊕ ⊖ a ⊗ 𝟘 ≡ 𝟘
    both_zero a = simp ring

    pub synthesis_low : (k : ℕ) (v : ℕ → F) (s : ℕ) → s + k < n → value_of K.ops n (synthesis k v) (pow s) ≡ 𝟘
    unfolding synthesis falling
    synthesis_low zero v s l = value_of_zeros K n (synthesis 0 v) (pow s) (λ i h. neg_zero K)
    synthesis_low (suc k) v s l =
        synthesis_step k v s ∙ ap₂ (λ (a b : F). a ⊕ ⊖ v k ⊗ b) (synthesis_low k v (suc s) (omega arith)) (ones_off (suc s) (omega arith) (omega arith))
        ∙ both_zero (v k)

    pub synthesis_high : (k : ℕ) (v : ℕ → F) (e : ℕ) → k ≤ n → e < k → value_of K.ops n (synthesis k v) (pow (n - k + e)) ≡ v e
    unfolding power
    synthesis_high zero v e fits l = absurd (omega arith)
    synthesis_high (suc k) v e fits l = synthesis_step k v (n - suc k + e) ∙ at (dec_lt e k) (λ h. synthesis_high k v e (omega arith) h)
      where
        other : (a b : F) → a ⊕ ⊖ b ⊗ 𝟘 ≡ a
        other a b = simp ring

        last : (b : F) → 𝟘 ⊕ ⊖ b ⊗ ⊖ 𝟙 ≡ b
        last b = simp ring

        at : Dec (e < k) → (e < k → value_of K.ops n (synthesis k v) (pow (n - k + e)) ≡ v e)
            → value_of K.ops n (synthesis k v) (pow (suc (n - suc k + e))) ⊕ ⊖ v k ⊗ ones n (pow (suc (n - suc k + e))) ≡ v e
        at (yes h) rest =
            let place : suc (n - suc k + e) ≡ n - k + e = omega arith in
            ap (λ (t : ℕ). value_of K.ops n (synthesis k v) (pow t) ⊕ ⊖ v k ⊗ ones n (pow t)) place
            ∙ ap₂ (λ (a b : F). a ⊕ ⊖ v k ⊗ b) (rest h) (ones_off (n - k + e) (omega arith) (omega arith)) ∙ other (v e) (v k)
        at (no d) rest =
            let place : suc (n - suc k + e) ≡ n = omega arith in
            let same : k ≡ e = omega arith in
            ap (λ (t : ℕ). value_of K.ops n (synthesis k v) (pow t) ⊕ ⊖ v k ⊗ ones n (pow t)) place
            ∙ ap₂ (λ (a b : F). a ⊕ ⊖ v k ⊗ b)
            (ap (value_of K.ops n (synthesis k v)) order.full ∙ synthesis_low k v 0 (omega arith))
            (ap (ones n) order.full ∙ value_of_at_one K n (λ i. 𝟙) ∙ order.ones)
            ∙ last (v k) ∙ ap v same
