-- The certainty of the first differing block, over any field and any n, k, m with (m+1)k ≤ n (demand 3; 000, Theorem 3.4).
-- Received symbols are of any type R; `cost v a` is what receiving v costs where a was sent, and the only law used is that two different
-- symbols cost at least 2 together. So a later meaning of cost changes no proof here.
-- Holds: `weight_apart` (what two sequences cost together is at least twice the weight of their difference); `sent_difference` (transmissions that agree so far
-- differ by combinations); `costs_apart`; `block_certain` (two near messages have the same block); `agree_through` (near windows 0 .. j determine blocks 0 ..
-- j).
use mathlib.Core.Path.{◌≡◌, sym, ap, ap₂, subst, ◌∙◌}
use mathlib.Core.Logic.{◌⊎◌, inl, inr}
use mathlib.Core.Bool.{Bool, not}
use Prim.Native.Nat.{ℕ, zero, suc, ◌+◌, ◌-◌, ◌*◌, ◌≤◌, ◌<◌}
use native.Mathlib.Nat.{mul-le-mul_right}
use native.Mathlib.Omega.{arith}
use native.Mathlib.Decide.{dec_lt, dec_le}
use borrow.Author.Tests.{le-leb, lt-leb}
use Rattle.algebra.specs.Ops.{sub, pick}
use Rattle.algebra.specs.Sum.{sum}
use Rattle.algebra.specs.Weight.{total, weight}
use Rattle.algebra.proofs.Laws.{Field, Tested, the_zero, non_zero, add-zero, zero-mul, eq_of_sub, sub_self, ring}
use Rattle.algebra.proofs.HasOrder.{HasOrder}
use Rattle.algebra.proofs.Sums.{sum_ext, sum_add, sum_neg, sum_zeros, sum_split}
use Rattle.algebra.proofs.Weights.{total_mono, total_add, total_scale}
use Rattle.code.specs.Code.{Code, level_distance, distances_to}
use Rattle.code.specs.Generator.{row_symbol, times_g}
use Rattle.code.specs.Transmission.{earlier, sent_symbol}
use Rattle.code.specs.Level.{combination}
use Rattle.code.specs.parts.Cost.{cost_to}
use Rattle.code.proofs.Blocks.{code_over, times_g_ext}
use Rattle.code.proofs.LevelCode.{combination_weight}

module _ {F R : Type 0} (K : Field F) (cost : R → F → ℕ) (apart : (v : R) (a b : F) → (a ≡ b → ⊥) → 2 ≤ cost v a + cost v b) where
  -- A symbol that differs costs 2 together.
  symbol_apart : (v : R) (a b : F) → 2 * pick (not (K.ops.is_zero (sub K.ops a b))) 1 0 ≤ cost v a + cost v b
  symbol_apart v a b = at (K.tested (sub K.ops a b))
    where
      at : {t : Bool} → Tested K.ops.zero (sub K.ops a b) t → 2 * pick (not t) 1 0 ≤ cost v a + cost v b
      at (the_zero z) = omega arith
      at (non_zero h) = omega (arith, apart v a b (λ e. h (ap (λ (t : F). sub K.ops t b) e ∙ sub_self K b)))

  -- What two sequences cost together is at least twice the weight of their difference.
  pub weight_apart : (n : ℕ) (v : ℕ → R) (a b d : ℕ → F) → ((i : ℕ) → sub K.ops (a i) (b i) ≡ d i)
      → 2 * weight K.ops n d ≤ total n (λ i. cost (v i) (a i)) + total n (λ i. cost (v i) (b i))
  weight_apart n v a b d same =
      let differ : ℕ → ℕ = λ i. pick (not (K.ops.is_zero (d i))) 1 0 in
      let symbols : total n (λ i. 2 * differ i) ≤ total n (λ i. cost (v i) (a i) + cost (v i) (b i)) =
      total_mono n (λ i. 2 * differ i) (λ i. cost (v i) (a i) + cost (v i) (b i))
      (λ i h. subst (λ (t : F). 2 * pick (not (K.ops.is_zero t)) 1 0 ≤ cost (v i) (a i) + cost (v i) (b i)) (same i) (symbol_apart (v i) (a i) (b i))) in
      omega (arith, total_scale n 2 differ, total_add n (λ i. cost (v i) (a i)) (λ i. cost (v i) (b i)))

module _ {F : Type 0} (K : Field F) (α : F) (n k m : ℕ) where
  infixl 60 ◌⊕◌
  infixl 70 ◌⊗◌
  infix 80 ⊖◌
  open K.ops use {add as ◌⊕◌, mul as ◌⊗◌, neg as ⊖◌, zero as 𝟘, one as 𝟙}

  abbrev c : Code F
  c = code_over K α n k m

  -- The difference of two sums, of two products with G_j, of two transmissions.
  pub sum_sub : (p : ℕ) (f g : ℕ → F) → sub K.ops (sum K.ops p f) (sum K.ops p g) ≡ sum K.ops p (λ i. sub K.ops (f i) (g i))
  sum_sub p f g = sym (sum_add K p f (λ i. ⊖ g i) ∙ ap (λ (t : F). sum K.ops p f ⊕ t) (sum_neg K p g))

  mul_sub : (a b g : F) → a ⊗ g ⊕ ⊖ (b ⊗ g) ≡ (a ⊕ ⊖ b) ⊗ g
  mul_sub a b g = simp ring

  pub times_g_sub : (x y : ℕ → F) (j i : ℕ) → sub K.ops (times_g c x j i) (times_g c y j i) ≡ times_g c (λ r. sub K.ops (x r) (y r)) j i
  unfolding times_g
  times_g_sub x y j i =
      sum_sub k (λ r. x r ⊗ row_symbol c j r i) (λ r. y r ⊗ row_symbol c j r i)
      ∙ sum_ext K.ops k (λ r. sub K.ops (x r ⊗ row_symbol c j r i) (y r ⊗ row_symbol c j r i)) (λ r. sub K.ops (x r) (y r) ⊗ row_symbol c j r i)
      (λ r l. mul_sub (x r) (y r) (row_symbol c j r i))

  pub times_g_zeros : (x : ℕ → F) (j i : ℕ) → ((r : ℕ) → r < k → x r ≡ 𝟘) → times_g c x j i ≡ 𝟘
  unfolding times_g
  times_g_zeros x j i h =
      sum_zeros K k (λ r. x r ⊗ row_symbol c j r i) (λ r l. ap (λ (t : F). t ⊗ row_symbol c j r i) (h r l) ∙ zero-mul K (row_symbol c j r i))

  -- Two messages that agree before block b: their transmissions differ in block b + l by the combination of the differences from block b on.
  pub sent_difference : (u v : ℕ → ℕ → F) (b l i : ℕ) → l ≤ m → ((s r : ℕ) → s < b → r < k → u s r ≡ v s r)
      → sub K.ops (sent_symbol c u (b + l) i) (sent_symbol c v (b + l) i) ≡ combination c l (λ s r. sub K.ops (u (b + s) r) (v (b + s) r)) i
  unfolding sent_symbol combination
  sent_difference u v b l i low agree =
      let split : suc l + (m - l) ≡ suc m = omega arith in
      sum_sub (suc m) (λ j. times_g c (earlier K.ops u (b + l) j) j i) (λ j. times_g c (earlier K.ops v (b + l) j) j i)
      ∙ sum_ext K.ops (suc m) (λ j. sub K.ops (times_g c (earlier K.ops u (b + l) j) j i) (times_g c (earlier K.ops v (b + l) j) j i)) term
      (λ j h. times_g_sub (earlier K.ops u (b + l) j) (earlier K.ops v (b + l) j) j i)
      ∙ ap (λ (t : ℕ). sum K.ops t term) (sym split)
      ∙ sum_split K (suc l) (m - l) term
      ∙ ap₂ ◌⊕◌
      (sum_ext K.ops (suc l) term (λ j. times_g c (difference (l - j)) j i) (λ j h. times_g_ext c (gap j) (difference (l - j)) j i (λ r s. inside j r h)))
      (sum_zeros K (m - l) (λ j. term (suc l + j)) (λ j h. times_g_zeros (gap (suc l + j)) (suc l + j) i (λ r s. outside (suc l + j) r (omega arith) s)))
      ∙ add-zero K (sum K.ops (suc l) (λ j. times_g c (difference (l - j)) j i))
    where
      gap : ℕ → ℕ → F
      gap j r = sub K.ops (earlier K.ops u (b + l) j r) (earlier K.ops v (b + l) j r)

      term : ℕ → F
      term j = times_g c (gap j) j i

      difference : ℕ → ℕ → F
      difference s r = sub K.ops (u (b + s) r) (v (b + s) r)

      inside : (j r : ℕ) → j < suc l → gap j r ≡ difference (l - j) r
      inside j r h =
          let reach : j ≤ b + l = omega arith in
          let place : b + l - j ≡ b + (l - j) = omega arith in
          ap (λ (t : Bool). sub K.ops (pick t (u (b + l - j) r) 𝟘) (pick t (v (b + l - j) r) 𝟘)) (le-leb j (b + l) reach)
          ∙ ap (λ (t : ℕ). sub K.ops (u t r) (v t r)) place

      outside : (j r : ℕ) → l < j → r < k → gap j r ≡ 𝟘
      outside j r h s = at (dec_le j (b + l))
        where
          at : Dec (j ≤ b + l) → gap j r ≡ 𝟘
          at (yes reach) =
              let before : b + l - j < b = omega arith in
              ap (λ (t : Bool). sub K.ops (pick t (u (b + l - j) r) 𝟘) (pick t (v (b + l - j) r) 𝟘)) (le-leb j (b + l) reach)
              ∙ ap (λ (t : F). sub K.ops t (v (b + l - j) r)) (agree (b + l - j) r before s)
              ∙ sub_self K (v (b + l - j) r)
          at (no d) =
              let past : b + l < j = omega arith in
              ap (λ (t : Bool). sub K.ops (pick t (u (b + l - j) r) 𝟘) (pick t (v (b + l - j) r) 𝟘)) (lt-leb j (b + l) past) ∙ sub_self K 𝟘

  -- d_0 + .. + d_l, term by term.
  pub distances_to_total : (l : ℕ) → distances_to n k l ≡ total (suc l) (level_distance n k)
  unfolding distances_to total
  distances_to_total zero = omega arith
  distances_to_total (suc l) = ap (λ (t : ℕ). t + level_distance n k (suc l)) (distances_to_total l)

  module _ (order : HasOrder K.ops n α) (fits : (m + 1) * k ≤ n) {R : Type 0} (cost : R → F → ℕ)
      (apart : (v : R) (a b : F) → (a ≡ b → ⊥) → 2 ≤ cost v a + cost v b) where
    -- Two messages that agree before block b and differ in it: blocks b .. b+l of the two transmissions together cost at least 2 (d_0 + .. + d_l).
    pub costs_apart : (u v : ℕ → ℕ → F) (w : ℕ → ℕ → R) (b l : ℕ) → l ≤ m → ((s r : ℕ) → s < b → r < k → u s r ≡ v s r)
        → (r : ℕ) → r < k → (u b r ≡ v b r → ⊥)
        → 2 * distances_to n k l ≤ cost_to n cost w (sent_symbol c u) b l + cost_to n cost w (sent_symbol c v) b l
    unfolding cost_to
    costs_apart u v w b l low agree r inside differ =
        subst (λ (t : ℕ). t ≤ cost_to n cost w (sent_symbol c u) b l + cost_to n cost w (sent_symbol c v) b l)
        (total_scale (suc l) 2 (level_distance n k) ∙ ap (λ (t : ℕ). 2 * t) (sym (distances_to_total l)))
        (subst (λ (t : ℕ). total (suc l) (λ s. 2 * level_distance n k s) ≤ t)
        (total_add (suc l) (λ s. total n (λ i. cost (w (b + s) i) (sent_symbol c u (b + s) i)))
        (λ s. total n (λ i. cost (w (b + s) i) (sent_symbol c v (b + s) i))))
        (total_mono (suc l) (λ s. 2 * level_distance n k s)
        (λ s. total n (λ i. cost (w (b + s) i) (sent_symbol c u (b + s) i)) + total n (λ i. cost (w (b + s) i) (sent_symbol c v (b + s) i)))
        (λ s h. block s (omega arith))))
      where
        difference : ℕ → ℕ → F
        difference s r = sub K.ops (u (b + s) r) (v (b + s) r)

        nonzero : difference 0 r ≡ 𝟘 → ⊥
        nonzero z =
            let place : b + 0 ≡ b = omega arith in
            differ (subst (λ (t : ℕ). u t r ≡ v t r) place (eq_of_sub K (u (b + 0) r) (v (b + 0) r) z))

        heavy : (s : ℕ) → s ≤ m → level_distance n k s ≤ weight K.ops n (combination c s difference)
        heavy s h =
            let top : s + 1 ≤ m + 1 = omega arith in
            let room : (s + 1) * k ≤ (m + 1) * k = mul-le-mul_right k top in
            let zero_le : 0 ≤ s = omega arith in
            omega (arith, combination_weight K α n k m order s difference (omega arith) 0 r zero_le inside nonzero)

        block : (s : ℕ) → s ≤ m → 2 * level_distance n k s
            ≤ total n (λ i. cost (w (b + s) i) (sent_symbol c u (b + s) i)) + total n (λ i. cost (w (b + s) i) (sent_symbol c v (b + s) i))
        block s h =
            omega (
              arith,
              heavy s h,
              weight_apart K cost apart n (w (b + s)) (sent_symbol c u (b + s)) (sent_symbol c v (b + s)) (combination c s difference)
                  (λ i. sent_difference u v b s i h agree),
            )

    -- Some symbol of two blocks differs, or none does.
    compare : (x y : ℕ → F) (p : ℕ) → ((r : ℕ) → r < p → x r ≡ y r) ⊎ ((r : ℕ) × (r < p) × (x r ≡ y r → ⊥))
    compare x y zero = inl (λ r l. absurd (omega arith))
    compare x y (suc p) = at (K.tested (sub K.ops (x p) (y p))) (compare x y p)
      where
        at : {t : Bool} → Tested 𝟘 (sub K.ops (x p) (y p)) t → ((r : ℕ) → r < p → x r ≡ y r) ⊎ ((r : ℕ) × (r < p) × (x r ≡ y r → ⊥))
            → ((r : ℕ) → r < suc p → x r ≡ y r) ⊎ ((r : ℕ) × (r < suc p) × (x r ≡ y r → ⊥))
        at (the_zero z) (inl same) = inl (λ r l. last r l (dec_lt r p))
          where
            last : (r : ℕ) → r < suc p → Dec (r < p) → x r ≡ y r
            last r l (yes h) = same r h
            last r l (no d) = let at_end : p ≡ r = omega arith in subst (λ (t : ℕ). x t ≡ y t) at_end (eq_of_sub K (x p) (y p) z)
        at (the_zero z) (inr w) = inr (w.0, omega (arith, w.1), w.2)
        at (non_zero h) s = inr (p, omega arith, λ e. h (ap (λ (t : F). sub K.ops t (y p)) e ∙ sub_self K (y p)))

    -- Blocks b .. b+l of two transmissions that are both near what was received: the messages, if they agree before block b, agree in block b.
    pub block_certain : (u v : ℕ → ℕ → F) (w : ℕ → ℕ → R) (b l : ℕ) → l ≤ m → ((s r : ℕ) → s < b → r < k → u s r ≡ v s r)
        → cost_to n cost w (sent_symbol c u) b l + cost_to n cost w (sent_symbol c v) b l < 2 * distances_to n k l → (r : ℕ) → r < k → u b r ≡ v b r
    block_certain u v w b l low agree near = at (compare (u b) (v b) k)
      where
        at : ((r : ℕ) → r < k → u b r ≡ v b r) ⊎ ((r : ℕ) × (r < k) × (u b r ≡ v b r → ⊥)) → (r : ℕ) → r < k → u b r ≡ v b r
        at (inl same) = same
        at (inr d) = absurd (omega (arith, costs_apart u v w b l low agree d.0 d.1 d.2))

    -- Near windows 0 .. j determine the blocks 0 .. j, whatever else was received.
    pub agree_through : (u v : ℕ → ℕ → F) (w : ℕ → ℕ → R) (j : ℕ)
        → ((b : ℕ) → b < j → cost_to n cost w (sent_symbol c u) b m + cost_to n cost w (sent_symbol c v) b m < 2 * distances_to n k m)
        → (b r : ℕ) → b < j → r < k → u b r ≡ v b r
    agree_through u v w zero near b r l s = absurd (omega arith)
    agree_through u v w (suc j) near b r l s = at (dec_lt b j) (agree_through u v w j (λ i h. near i (omega arith)))
      where
        at : Dec (b < j) → ((i t : ℕ) → i < j → t < k → u i t ≡ v i t) → u b r ≡ v b r
        at (yes h) before = before b r h s
        at (no d) before =
            let here : j ≡ b = omega arith in
            let m_le : m ≤ m = omega arith in
            subst (λ (t : ℕ). u t r ≡ v t r) here (block_certain u v w j m m_le before (near j (omega arith)) r s)
