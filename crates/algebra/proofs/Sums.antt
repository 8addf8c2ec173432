-- Finite sums over a field: equal terms, zero terms, sums and multiples, the first term, one term alone.
-- Holds: `sum_ext`, `sum_add`, `sum_scale`, `sum_neg`, `sum_zeros`, `sum_first`, `sum_split`, `sum_single`.
use mathlib.Core.Path.{◌≡◌, refl, sym, ap, ap₂, ◌∙◌}
use Prim.Native.Nat.{ℕ, zero, suc, ◌+◌, ◌<◌}
use native.Mathlib.Nat.{add-zero as nat_add_zero, add-suc as nat_add_suc}
use native.Mathlib.Omega.{arith}
use native.Mathlib.Decide.{ℕ_discrete}
use Rattle.algebra.specs.Ops.{Ops}
use Rattle.algebra.specs.Sum.{sum}
use Rattle.algebra.proofs.Laws.{Field, add_assoc, add_comm, add-zero, zero-add, mul-zero, distrib, neg_zero, neg_add, ring}

-- Sums with equal terms are equal, over any operations.
pub sum_ext : {F : Type 0} (o : Ops F) (n : ℕ) (f g : ℕ → F) → ((i : ℕ) → i < n → f i ≡ g i) → sum o n f ≡ sum o n g
unfolding sum
sum_ext o zero f g h = refl
sum_ext o (suc n) f g h = ap₂ o.add (sum_ext o n f g (λ i l. h i (omega arith))) (h n (omega arith))

module _ {F : Type 0} (K : Field F) where
  infixl 60 ◌⊕◌
  infixl 70 ◌⊗◌
  infix 80 ⊖◌
  open K.ops use {add as ◌⊕◌, mul as ◌⊗◌, neg as ⊖◌, zero as 𝟘, one as 𝟙}

  interchange : (a b c d : F) → (a ⊕ b) ⊕ (c ⊕ d) ≡ (a ⊕ c) ⊕ (b ⊕ d)
  interchange a b c d = simp ring

  pub sum_zeros : (n : ℕ) (f : ℕ → F) → ((i : ℕ) → i < n → f i ≡ 𝟘) → sum K.ops n f ≡ 𝟘
  unfolding sum
  sum_zeros zero f h = refl
  sum_zeros (suc n) f h = ap₂ ◌⊕◌ (sum_zeros n f (λ i l. h i (omega arith))) (h n (omega arith)) ∙ add-zero K 𝟘

  pub sum_add : (n : ℕ) (f g : ℕ → F) → sum K.ops n (λ i. f i ⊕ g i) ≡ sum K.ops n f ⊕ sum K.ops n g
  unfolding sum
  sum_add zero f g = sym (add-zero K 𝟘)
  sum_add (suc n) f g = ap (λ (t : F). t ⊕ (f n ⊕ g n)) (sum_add n f g) ∙ interchange (sum K.ops n f) (sum K.ops n g) (f n) (g n)

  pub sum_scale : (n : ℕ) (a : F) (f : ℕ → F) → sum K.ops n (λ i. a ⊗ f i) ≡ a ⊗ sum K.ops n f
  unfolding sum
  sum_scale zero a f = sym (mul-zero K a)
  sum_scale (suc n) a f = ap (λ (t : F). t ⊕ a ⊗ f n) (sum_scale n a f) ∙ sym (distrib K a (sum K.ops n f) (f n))

  pub sum_neg : (n : ℕ) (f : ℕ → F) → sum K.ops n (λ i. ⊖ f i) ≡ ⊖ sum K.ops n f
  unfolding sum
  sum_neg zero f = sym (neg_zero K)
  sum_neg (suc n) f = ap (λ (t : F). t ⊕ ⊖ f n) (sum_neg n f) ∙ sym (neg_add K (sum K.ops n f) (f n))

  pub sum_first : (n : ℕ) (f : ℕ → F) → sum K.ops (suc n) f ≡ f 0 ⊕ sum K.ops n (λ i. f (suc i))
  unfolding sum
  sum_first zero f = add_comm K 𝟘 (f 0)
  sum_first (suc n) f = ap (λ (t : F). t ⊕ f (suc n)) (sum_first n f) ∙ add_assoc K (f 0) (sum K.ops n (λ i. f (suc i))) (f (suc n))

  pub sum_split : (n m : ℕ) (f : ℕ → F) → sum K.ops (n + m) f ≡ sum K.ops n f ⊕ sum K.ops m (λ i. f (n + i))
  unfolding sum
  sum_split n zero f = ap (λ (t : ℕ). sum K.ops t f) (nat_add_zero n) ∙ sym (add-zero K (sum K.ops n f))
  sum_split n (suc m) f =
      ap (λ (t : ℕ). sum K.ops t f) (nat_add_suc n m)
      ∙ (ap (λ (t : F). t ⊕ f (n + m)) (sum_split n m f) ∙ add_assoc K (sum K.ops n f) (sum K.ops m (λ i. f (n + i))) (f (n + m)))

  -- A sum with at most one nonzero term is that term.
  pub sum_single : (n p : ℕ) (f : ℕ → F) → p < n → ((i : ℕ) → i < n → (i ≡ p → ⊥) → f i ≡ 𝟘) → sum K.ops n f ≡ f p
  unfolding sum
  sum_single zero p f l h = absurd (omega arith)
  sum_single (suc n) p f l h = at (ℕ_discrete n p) (λ d. sum_single n p f d (λ i s. h i (omega arith)))
    where
      at : Dec (n ≡ p) → (p < n → sum K.ops n f ≡ f p) → sum K.ops n f ⊕ f n ≡ f p
      at (yes e) rest =
          ap (λ (t : F). t ⊕ f n) (sum_zeros n f (λ i s. h i (omega arith) (omega arith))) ∙ zero-add K (f n) ∙ ap f e
      at (no d) rest = ap (λ (t : F). sum K.ops n f ⊕ t) (h n (omega arith) d) ∙ add-zero K (sum K.ops n f) ∙ rest (omega arith)
