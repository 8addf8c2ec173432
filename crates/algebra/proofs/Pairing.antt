-- Pairing (the discrete Fourier transform's symmetry): the sum of b_i g(α^i) equals the sum of g_s b(α^s).
-- Holds: `pairing`.
use mathlib.Core.Path.{◌≡◌, sym, ap, ap₂, ◌∙◌}
use mathlib.Core.List.{List, [], ◌∷◌}
use Prim.Native.Nat.{ℕ}
use lib.ListN.{length, get_or}
use Rattle.algebra.specs.Sum.{sum, power}
use Rattle.algebra.specs.Polynomial.{value}
use Rattle.algebra.specs.parts.Values.{value_of}
use Rattle.algebra.proofs.Laws.{Field, mul-zero, ring}
use Rattle.algebra.proofs.Sums.{sum_ext, sum_add, sum_scale, sum_zeros, sum_first}
use Rattle.algebra.proofs.Polynomials.{value_of_twist, value_of_at_one}

module _ {F : Type 0} (K : Field F) where
  infixl 60 ◌⊕◌
  infixl 70 ◌⊗◌
  open K.ops use {add as ◌⊕◌, mul as ◌⊗◌, zero as 𝟘, one as 𝟙}

  pair_step : (b c p v : F) → b ⊗ (c ⊕ p ⊗ v) ≡ c ⊗ b ⊕ b ⊗ p ⊗ v
  pair_step b c p v = simp ring

  pub pairing : (α : F) (n : ℕ) (g : List F) (b : ℕ → F)
      → sum K.ops n (λ i. b i ⊗ value K.ops g (power K.ops α i))
      ≡ sum K.ops (length g) (λ s. get_or g s 𝟘 ⊗ value_of K.ops n b (power K.ops α s))
  unfolding value power sum
  pairing α n [] b = sum_zeros K n (λ i. b i ⊗ 𝟘) (λ i l. mul-zero K (b i))
  pairing α n (c ∷ g) b =
      sum_ext K.ops n (λ i. b i ⊗ (c ⊕ power K.ops α i ⊗ value K.ops g (power K.ops α i)))
      (λ i. c ⊗ b i ⊕ b i ⊗ power K.ops α i ⊗ value K.ops g (power K.ops α i))
      (λ i l. pair_step (b i) c (power K.ops α i) (value K.ops g (power K.ops α i)))
      ∙ sum_add K n (λ i. c ⊗ b i) (λ i. b i ⊗ power K.ops α i ⊗ value K.ops g (power K.ops α i))
      ∙ ap₂ ◌⊕◌
      (sum_scale K n c b ∙ ap (λ (t : F). c ⊗ t) (sym (value_of_at_one K n b)))
      (pairing α n g (λ i. b i ⊗ power K.ops α i)
      ∙ sum_ext K.ops (length g) (λ s. get_or g s 𝟘 ⊗ value_of K.ops n (λ i. b i ⊗ power K.ops α i) (power K.ops α s))
      (λ s. get_or g s 𝟘 ⊗ value_of K.ops n b (α ⊗ power K.ops α s))
      (λ s l. ap (λ (t : F). get_or g s 𝟘 ⊗ t) (value_of_twist K n b α (power K.ops α s))))
      ∙ sym (sum_first K (length g) (λ s. get_or (c ∷ g) s 𝟘 ⊗ value_of K.ops n b (power K.ops α s)))
