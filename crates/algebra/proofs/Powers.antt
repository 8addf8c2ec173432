-- Powers over a field, and the powers of an element of order n.
-- Holds: `power_add`, `power_power`, `power_of_one`, `power_nonzero`; with an element of order n: `root_nonzero`, `power_wraps`.
use mathlib.Core.Path.{◌≡◌, refl, sym, ap, ◌∙◌}
use Prim.Native.Nat.{ℕ, zero, suc, ◌+◌, ◌*◌, ◌<◌}
use native.Mathlib.Nat.{zero-add as nat_zero_add, suc-add as nat_suc_add, mul-zero as nat_mul_zero, mul-suc as nat_mul_suc, add_comm as nat_add_comm}
use native.Mathlib.Omega.{arith}
use Rattle.algebra.specs.Sum.{power}
use Rattle.algebra.proofs.Laws.{Field, mul_assoc, one-mul, zero-mul, mul_eq_zero}
use Rattle.algebra.proofs.HasOrder.{HasOrder}

module _ {F : Type 0} (K : Field F) where
  infixl 60 ◌⊕◌
  infixl 70 ◌⊗◌
  open K.ops use {add as ◌⊕◌, mul as ◌⊗◌, zero as 𝟘, one as 𝟙}

  pub power_add : (a : F) (i j : ℕ) → power K.ops a (i + j) ≡ power K.ops a i ⊗ power K.ops a j
  unfolding power
  power_add a zero j = ap (power K.ops a) (nat_zero_add j) ∙ sym (one-mul K (power K.ops a j))
  power_add a (suc i) j =
      ap (power K.ops a) (nat_suc_add i j)
      ∙ (ap (λ (t : F). a ⊗ t) (power_add a i j) ∙ sym (mul_assoc K a (power K.ops a i) (power K.ops a j)))

  pub power_of_one : (i : ℕ) → power K.ops 𝟙 i ≡ 𝟙
  unfolding power
  power_of_one zero = refl
  power_of_one (suc i) = one-mul K (power K.ops 𝟙 i) ∙ power_of_one i

  pub power_power : (a : F) (i j : ℕ) → power K.ops (power K.ops a i) j ≡ power K.ops a (i * j)
  unfolding power
  power_power a i zero = ap (power K.ops a) (sym (nat_mul_zero i))
  power_power a i (suc j) =
      ap (λ (t : F). power K.ops a i ⊗ t) (power_power a i j) ∙ sym (power_add a i (i * j))
      ∙ ap (power K.ops a) (nat_add_comm i (i * j) ∙ sym (nat_mul_suc i j))

  pub power_nonzero : (a : F) → (a ≡ 𝟘 → ⊥) → (i : ℕ) → power K.ops a i ≡ 𝟘 → ⊥
  unfolding power
  power_nonzero a h zero e = K.one_nonzero e
  power_nonzero a h (suc i) e = power_nonzero a h i (mul_eq_zero K a (power K.ops a i) h e)

  module _ (n : ℕ) (α : F) (order : HasOrder K.ops n α) where
    pub root_nonzero : 0 < n → α ≡ 𝟘 → ⊥
    unfolding power
    root_nonzero h e = at n h order.full
      where
        at : (i : ℕ) → 0 < i → power K.ops α i ≡ 𝟙 → ⊥
        at zero l f = omega arith
        at (suc i) l f = K.one_nonzero (sym f ∙ (ap (λ (t : F). t ⊗ power K.ops α i) e ∙ zero-mul K (power K.ops α i)))

    pub power_wraps : (i : ℕ) → power K.ops α (n + i) ≡ power K.ops α i
    power_wraps i = power_add α n i ∙ ap (λ (t : F). t ⊗ power K.ops α i) order.full ∙ one-mul K (power K.ops α i)
