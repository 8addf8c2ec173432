-- The transmission of a difference, and combinations near one block, over any field and any n, k, m with (m+1)k ≤ n (01, "Reading a reception"; 000,
-- Algorithms 2.3 and 3.3, Theorem 3.4). Received symbols are of any type R, with a cost as in `Certainty`.
-- Holds: `sent_sub` (the transmission of a difference), `sent_zeros`, `sent_ahead`; `combination_zeros`, `combination_sub`; `combination_certain`.
use mathlib.Core.Path.{◌≡◌, refl, sym, ap, ◌∙◌}
use mathlib.Core.Bool.{Bool, true, false}
use Prim.Native.Nat.{ℕ, suc, ◌+◌, ◌-◌, ◌*◌, ◌≤◌, ◌<◌}
use native.Mathlib.Nat.{mul-le-mul_right}
use native.Mathlib.Omega.{arith}
use lib.Dec.{leb}
use Rattle.algebra.specs.Ops.{sub, pick}
use Rattle.algebra.proofs.Laws.{Field, Tested, the_zero, non_zero, add-zero, neg_zero, eq_of_sub, sub_self}
use Rattle.algebra.proofs.HasOrder.{HasOrder}
use Rattle.algebra.proofs.Sums.{sum_ext, sum_zeros}
use Rattle.code.specs.Code.{Code, level_distance}
use Rattle.code.specs.Generator.{times_g}
use Rattle.code.specs.Transmission.{earlier, sent_symbol}
use Rattle.code.specs.Level.{combination}
use Rattle.code.specs.parts.Cost.{block_cost}
use Rattle.code.proofs.Blocks.{code_over, times_g_ext, combination_ext}
use Rattle.code.proofs.LevelCode.{combination_weight}
use Rattle.code.proofs.Certainty.{sum_sub, times_g_sub, times_g_zeros, sent_difference, weight_apart}

module _ {F : Type 0} (K : Field F) (α : F) (n k m : ℕ) where
  infixl 60 ◌⊕◌
  infixl 70 ◌⊗◌
  infix 80 ⊖◌
  open K.ops use {add as ◌⊕◌, mul as ◌⊗◌, neg as ⊖◌, zero as 𝟘, one as 𝟙}

  abbrev c : Code F
  c = code_over K α n k m

  sub_zero : (a : F) → sub K.ops a 𝟘 ≡ a
  sub_zero a = ap (λ (t : F). a ⊕ t) (neg_zero K) ∙ add-zero K a

  earlier_sub : (x g : ℕ → ℕ → F) (s j r : ℕ)
      → sub K.ops (earlier K.ops x s j r) (earlier K.ops g s j r) ≡ earlier K.ops (λ b t. sub K.ops (x b t) (g b t)) s j r
  earlier_sub x g s j r = at (leb j s)
    where
      at : (b : Bool) → sub K.ops (pick b (x (s - j) r) 𝟘) (pick b (g (s - j) r) 𝟘) ≡ pick b (sub K.ops (x (s - j) r) (g (s - j) r)) 𝟘
      at true = refl
      at false = sub_self K 𝟘

  -- The transmission of a difference of messages is the difference of their transmissions.
  pub sent_sub : (x g : ℕ → ℕ → F) (s i : ℕ)
      → sub K.ops (sent_symbol c x s i) (sent_symbol c g s i) ≡ sent_symbol c (λ b r. sub K.ops (x b r) (g b r)) s i
  unfolding sent_symbol
  sent_sub x g s i =
      sum_sub K α n k m (suc m) (λ j. times_g c (earlier K.ops x s j) j i) (λ j. times_g c (earlier K.ops g s j) j i)
      ∙ sum_ext K.ops (suc m) (λ j. sub K.ops (times_g c (earlier K.ops x s j) j i) (times_g c (earlier K.ops g s j) j i))
      (λ j. times_g c (earlier K.ops (λ b r. sub K.ops (x b r) (g b r)) s j) j i)
      (λ j h. times_g_sub K α n k m (earlier K.ops x s j) (earlier K.ops g s j) j i
      ∙ times_g_ext c (λ r. sub K.ops (earlier K.ops x s j r) (earlier K.ops g s j r))
      (earlier K.ops (λ b r. sub K.ops (x b r) (g b r)) s j) j i (λ r l. earlier_sub x g s j r))

  pub sent_zeros : (s i : ℕ) → sent_symbol c (λ b r. 𝟘) s i ≡ 𝟘
  unfolding sent_symbol
  sent_zeros s i =
      sum_zeros K (suc m) (λ j. times_g c (earlier K.ops (λ b r. 𝟘) s j) j i)
      (λ j h. times_g_zeros K α n k m (earlier K.ops (λ b r. 𝟘) s j) j i (λ r l. at (leb j s)))
    where
      at : (b : Bool) → pick b 𝟘 𝟘 ≡ 𝟘
      at true = refl
      at false = refl

  pub combination_zeros : (l i : ℕ) → combination c l (λ b r. 𝟘) i ≡ 𝟘
  unfolding combination
  combination_zeros l i = sum_zeros K (suc l) (λ j. times_g c (λ r. 𝟘) j i) (λ j h. times_g_zeros K α n k m (λ r. 𝟘) j i (λ r s. refl))

  pub combination_sub : (l : ℕ) (x y : ℕ → ℕ → F) (i : ℕ)
      → sub K.ops (combination c l x i) (combination c l y i) ≡ combination c l (λ b r. sub K.ops (x b r) (y b r)) i
  unfolding combination
  combination_sub l x y i =
      sum_sub K α n k m (suc l) (λ j. times_g c (x (l - j)) j i) (λ j. times_g c (y (l - j)) j i)
      ∙ sum_ext K.ops (suc l) (λ j. sub K.ops (times_g c (x (l - j)) j i) (times_g c (y (l - j)) j i))
      (λ j. times_g c (λ r. sub K.ops (x (l - j) r) (y (l - j) r)) j i) (λ j h. times_g_sub K α n k m (x (l - j)) (y (l - j)) j i)

  -- A message that is zero before block b sends combinations from block b on.
  pub sent_ahead : (y : ℕ → ℕ → F) (b l i : ℕ) → l ≤ m → ((s r : ℕ) → s < b → r < k → y s r ≡ 𝟘)
      → sent_symbol c y (b + l) i ≡ combination c l (λ s r. y (b + s) r) i
  sent_ahead y b l i low zeros =
      sym (sub_zero (sent_symbol c y (b + l) i)) ∙ ap (sub K.ops (sent_symbol c y (b + l) i)) (sym (sent_zeros (b + l) i))
      ∙ sent_difference K α n k m y (λ s r. 𝟘) b l i low zeros
      ∙ combination_ext c l (λ s r. sub K.ops (y (b + s) r) 𝟘) (λ s r. y (b + s) r) i (λ s r h q. sub_zero (y (b + s) r))

  module _ (order : HasOrder K.ops n α) (fits : (m + 1) * k ≤ n) {R : Type 0} (cost : R → F → ℕ)
      (apart : (v : R) (a b : F) → (a ≡ b → ⊥) → 2 ≤ cost v a + cost v b) where
    -- Two combinations of one level that are both near a block have the same information.
    pub combination_certain : (v : ℕ → R) (l : ℕ) (y z : ℕ → ℕ → F) → l ≤ m
        → block_cost c cost v l y < level_distance n k l → block_cost c cost v l z < level_distance n k l → (s r : ℕ) → s ≤ l → r < k → y s r ≡ z s r
    unfolding block_cost
    combination_certain v l y z low near_y near_z s r below inside = at (K.tested (difference s r))
      where
        difference : ℕ → ℕ → F
        difference b t = sub K.ops (y b t) (z b t)

        at : {t : Bool} → Tested 𝟘 (difference s r) t → y s r ≡ z s r
        at (the_zero e) = eq_of_sub K (y s r) (z s r) e
        at (non_zero h) =
            let top : l + 1 ≤ m + 1 = omega arith in
            let room : (l + 1) * k ≤ (m + 1) * k = mul-le-mul_right k top in
            absurd (omega (
              arith,
              weight_apart K cost apart n v (combination c l y) (combination c l z) (combination c l difference) (combination_sub l y z),
              combination_weight K α n k m order l difference (omega arith) s r below inside h,
            ))
