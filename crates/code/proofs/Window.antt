-- One window by itself, over any field and any n, k, m with (m+1)k ≤ n (01, "Reading a reception"; 000, Theorem 3.4).
-- The window's blocks are w 0 .. w m, of received symbols of any type R; a sequence y of information blocks contributes the combinations of y_0 .. y_l to
-- block l (`rebuilt_cost`).
-- Holds: `contribution`, `single`, `sent_single` (what one information block contributes to a frame); `turn_certain` (two near sequences begin alike),
-- `turn_refused`.
use mathlib.Core.Path.{◌≡◌, refl, sym, ap, ap₂, ◌∙◌}
use mathlib.Core.Bool.{Bool}
use Prim.Native.Nat.{ℕ, suc, ◌+◌, ◌-◌, ◌*◌, ◌≤◌, ◌<◌}
use native.Mathlib.Nat.{zero-add}
use native.Mathlib.Omega.{arith}
use native.Mathlib.Decide.{dec_le}
use lib.Dec.{leb, eqb}
use borrow.Author.Tests.{le-leb, lt-leb, eq-eqb, ne_eqb}
use Rattle.algebra.specs.Ops.{pick}
use Rattle.algebra.specs.Sum.{sum}
use Rattle.algebra.proofs.Laws.{Field}
use Rattle.algebra.proofs.HasOrder.{HasOrder}
use Rattle.algebra.proofs.Sums.{sum_zeros, sum_single}
use Rattle.algebra.proofs.Weights.{total_ext}
use Rattle.code.specs.Code.{Code, level_distance, distances_to}
use Rattle.code.specs.Generator.{times_g}
use Rattle.code.specs.Transmission.{earlier, sent_symbol}
use Rattle.code.specs.parts.Cost.{cost_to, block_cost, rebuilt_cost}
use Rattle.code.proofs.Blocks.{code_over, times_g_ext, combination_ext}
use Rattle.code.proofs.Certainty.{times_g_zeros, block_certain}
use Rattle.code.proofs.Differences.{sent_ahead, combination_certain}

module _ {F : Type 0} (K : Field F) (α : F) (n k m : ℕ) where
  open K.ops use {zero as 𝟘}

  abbrev c : Code F
  c = code_over K α n k m

  -- What one information block x, at block b of a message, contributes to symbol i of block s of the transmission.
  unfoldable pub contribution : (ℕ → F) → ℕ → ℕ → ℕ → F
  contribution x b s i = pick (leb b s) (pick (leb (s - b) m) (times_g c x (s - b) i) 𝟘) 𝟘

  -- The message with the one information block x at block b.
  abbrev pub single : (ℕ → F) → ℕ → ℕ → ℕ → F
  single x b s r = pick (eqb s b) (x r) 𝟘

  single_at : (x : ℕ → F) (b r : ℕ) → single x b b r ≡ x r
  single_at x b r = ap (λ (t : Bool). pick t (x r) 𝟘) (eq-eqb b b refl)

  single_off : (x : ℕ → F) (b s r : ℕ) → (s ≡ b → ⊥) → single x b s r ≡ 𝟘
  single_off x b s r d = ap (λ (t : Bool). pick t (x r) 𝟘) (ne_eqb s b d)

  -- The information block s - j of such a message, where s - j is b and where it is not.
  earlier_off : (x : ℕ → F) (b s j r : ℕ) → (j ≤ s → s - j ≡ b → ⊥) → earlier K.ops (single x b) s j r ≡ 𝟘
  earlier_off x b s j r d = at (dec_le j s)
    where
      at : Dec (j ≤ s) → earlier K.ops (single x b) s j r ≡ 𝟘
      at (yes h) = ap (λ (t : Bool). pick t (single x b (s - j) r) 𝟘) (le-leb j s h) ∙ single_off x b (s - j) r (d h)
      at (no h) = let past : s < j = omega arith in ap (λ (t : Bool). pick t (single x b (s - j) r) 𝟘) (lt-leb j s past)

  pub sent_single : (x : ℕ → F) (b s i : ℕ) → sent_symbol c (single x b) s i ≡ contribution x b s i
  unfolding sent_symbol contribution
  sent_single x b s i = at (dec_le b s)
    where
      terms : ℕ → F
      terms j = times_g c (earlier K.ops (single x b) s j) j i

      zeros : ((j : ℕ) → j < suc m → j ≤ s → s - j ≡ b → ⊥) → sum K.ops (suc m) terms ≡ 𝟘
      zeros d = sum_zeros K (suc m) terms (λ j h. times_g_zeros K α n k m (earlier K.ops (single x b) s j) j i (λ r l. earlier_off x b s j r (d j h)))

      inside : b ≤ s → Dec (s - b ≤ m) → sum K.ops (suc m) terms ≡ pick (leb (s - b) m) (times_g c x (s - b) i) 𝟘
      inside h (yes l) =
          sum_single K (suc m) (s - b) terms (omega arith)
          (λ j u d. times_g_zeros K α n k m (earlier K.ops (single x b) s j) j i (λ r q. earlier_off x b s j r (λ v e. d (omega arith))))
          ∙ times_g_ext c (earlier K.ops (single x b) s (s - b)) x (s - b) i (λ r q. there r)
          ∙ sym (ap (λ (t : Bool). pick t (times_g c x (s - b) i) 𝟘) (le-leb (s - b) m l))
        where
          there : (r : ℕ) → earlier K.ops (single x b) s (s - b) r ≡ x r
          there r =
              let reach : s - b ≤ s = omega arith in
              let back : s - (s - b) ≡ b = omega arith in
              ap (λ (t : Bool). pick t (single x b (s - (s - b)) r) 𝟘) (le-leb (s - b) s reach)
              ∙ (ap (λ (t : ℕ). single x b t r) back ∙ single_at x b r)
      inside h (no l) =
          let past : m < s - b = omega arith in
          zeros (λ j u v e. omega arith) ∙ sym (ap (λ (t : Bool). pick t (times_g c x (s - b) i) 𝟘) (lt-leb (s - b) m past))

      at : Dec (b ≤ s) → sum K.ops (suc m) terms ≡ pick (leb b s) (pick (leb (s - b) m) (times_g c x (s - b) i) 𝟘) 𝟘
      at (yes h) = inside h (dec_le (s - b) m) ∙ sym (ap (λ (t : Bool). pick t (pick (leb (s - b) m) (times_g c x (s - b) i) 𝟘) 𝟘) (le-leb b s h))
      at (no h) =
          let past : s < b = omega arith in
          zeros (λ j u v e. omega arith) ∙ sym (ap (λ (t : Bool). pick t (pick (leb (s - b) m) (times_g c x (s - b) i) 𝟘) 𝟘) (lt-leb b s past))

  module _ (order : HasOrder K.ops n α) (fits : (m + 1) * k ≤ n) {R : Type 0} (cost : R → F → ℕ)
      (apart : (v : R) (a b : F) → (a ≡ b → ⊥) → 2 ≤ cost v a + cost v b) (w : ℕ → ℕ → R) where
    -- A message's blocks from the first on cost what its combinations cost.
    sent_cost : (y : ℕ → ℕ → F) (l : ℕ) → l ≤ m → cost_to n cost w (sent_symbol c y) 0 l ≡ rebuilt_cost c cost w l y
    unfolding cost_to rebuilt_cost block_cost
    sent_cost y l low =
        total_ext (suc l) _ _ (λ s h. total_ext n _ _ (λ i q. ap₂ cost (ap (λ (b : ℕ). w b i) (zero-add s))
        (sent_ahead K α n k m y 0 s i (omega arith) (λ t r u v. absurd (omega arith))
        ∙ combination_ext c s (λ t r. y (0 + t) r) y i (λ t r u v. ap (λ (b : ℕ). y b r) (zero-add t)))))

    -- Two near sequences have the same first block.
    pub turn_certain : (y z : ℕ → ℕ → F) (l : ℕ) → l ≤ m → rebuilt_cost c cost w l y < distances_to n k l → rebuilt_cost c cost w l z < distances_to n k l
        → (r : ℕ) → r < k → y 0 r ≡ z 0 r
    turn_certain y z l low near good =
        block_certain K α n k m order fits cost apart y z w 0 l low (λ s r u v. absurd (omega arith)) (omega (arith, sent_cost y l low, sent_cost z l low))

    -- A candidate z of level l that is refused: block l of every near sequence costs at least d_l.
    pub turn_refused : (y z : ℕ → ℕ → F) (l : ℕ) → l ≤ m → rebuilt_cost c cost w l y < distances_to n k l → block_cost c cost (w l) l z < level_distance n k l
        → distances_to n k l ≤ rebuilt_cost c cost w l z → level_distance n k l ≤ block_cost c cost (w l) l y
    unfolding rebuilt_cost block_cost
    turn_refused y z l low near close bad =
        let never : block_cost c cost (w l) l y < level_distance n k l → ⊥ = λ small. omega (arith, same small) in omega arith
      where
        same : block_cost c cost (w l) l y < level_distance n k l → rebuilt_cost c cost w l y ≡ rebuilt_cost c cost w l z
        same small =
            total_ext (suc l) _ _ (λ s h. total_ext n _ _ (λ i q. ap (cost (w s i)) (combination_ext c s y z i
            (λ t r u v. combination_certain K α n k m order fits cost apart (w l) l y z low small close t r (omega arith) v))))
