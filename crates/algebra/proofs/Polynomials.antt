-- Polynomial values over a field (01, "The value of a polynomial"): sums, multiples, shorter sequences, the twist, products with (x - a) and with powers of x.
-- Holds: `value_of_ext`, `value_of_add`, `value_of_scale`, `value_of_neg`, `value_of_zeros`, `value_of_is_sum`, `value_of_of_sum`, `value_of_twist`,
-- `value_is_value_of`, `value_times_root`, `value_shift`, `value_at_root`, `value_off_roots`, `length_from_roots`, `monic_from_roots`.
use mathlib.Core.Path.{◌≡◌, refl, sym, ap, ap₂, ◌∙◌}
use mathlib.Core.List.{List, [], ◌∷◌, ◌++◌}
use Prim.Native.Nat.{ℕ, zero, suc, ◌<◌, ◌≤◌}
use native.Mathlib.Omega.{arith}
use lib.ListN.{length, get_or, replicate}
use Rattle.algebra.specs.Ops.{Ops, sub}
use Rattle.algebra.specs.Sum.{sum, power}
use Rattle.algebra.specs.Polynomial.{value, times_root, times_root_after, from_roots}
use Rattle.algebra.specs.parts.Values.{value_of}
use Rattle.algebra.proofs.Laws.{Field, add-zero, zero-add, mul-zero, zero-mul, mul_one, add_neg, mul_eq_zero, eq_of_sub, ring}
use Rattle.algebra.proofs.Sums.{sum_ext, sum_scale, sum_first}
use Rattle.algebra.proofs.Powers.{power_of_one}

-- Equal coefficients have equal values, over any operations.
pub value_of_ext : {F : Type 0} (o : Ops F) (n : ℕ) (b c : ℕ → F) (x : F) → ((i : ℕ) → i < n → b i ≡ c i) → value_of o n b x ≡ value_of o n c x
unfolding value_of
value_of_ext o zero b c x h = refl
value_of_ext o (suc n) b c x h =
    ap₂ o.add (h 0 (omega arith)) (ap (o.mul x) (value_of_ext o n (λ i. b (suc i)) (λ i. c (suc i)) x (λ i l. h (suc i) (omega arith))))

-- A list's value is that of its sequence of coefficients, over any operations.
pub value_is_value_of : {F : Type 0} (o : Ops F) (p : List F) (x : F) → value o p x ≡ value_of o (length p) (λ i. get_or p i o.zero) x
unfolding value value_of
value_is_value_of o [] x = refl
value_is_value_of o (c ∷ p) x = ap (λ t. o.add c (o.mul x t)) (value_is_value_of o p x)

module _ {F : Type 0} (K : Field F) where
  infixl 60 ◌⊕◌
  infixl 70 ◌⊗◌
  infix 80 ⊖◌
  open K.ops use {add as ◌⊕◌, mul as ◌⊗◌, neg as ⊖◌, zero as 𝟘, one as 𝟙}

  add_step : (b c x s t : F) → b ⊕ c ⊕ x ⊗ (s ⊕ t) ≡ (b ⊕ x ⊗ s) ⊕ (c ⊕ x ⊗ t)
  add_step b c x s t = simp ring

  pub value_of_add : (n : ℕ) (b c : ℕ → F) (x : F) → value_of K.ops n (λ i. b i ⊕ c i) x ≡ value_of K.ops n b x ⊕ value_of K.ops n c x
  unfolding value_of
  value_of_add zero b c x = sym (add-zero K 𝟘)
  value_of_add (suc n) b c x =
      ap (λ (t : F). b 0 ⊕ c 0 ⊕ x ⊗ t) (value_of_add n (λ i. b (suc i)) (λ i. c (suc i)) x)
      ∙ add_step (b 0) (c 0) x (value_of K.ops n (λ i. b (suc i)) x) (value_of K.ops n (λ i. c (suc i)) x)

  scale_step : (a c x t : F) → a ⊗ c ⊕ x ⊗ (a ⊗ t) ≡ a ⊗ (c ⊕ x ⊗ t)
  scale_step a c x t = simp ring

  pub value_of_scale : (n : ℕ) (a : F) (c : ℕ → F) (x : F) → value_of K.ops n (λ i. a ⊗ c i) x ≡ a ⊗ value_of K.ops n c x
  unfolding value_of
  value_of_scale zero a c x = sym (mul-zero K a)
  value_of_scale (suc n) a c x =
      ap (λ (t : F). a ⊗ c 0 ⊕ x ⊗ t) (value_of_scale n a (λ i. c (suc i)) x) ∙ scale_step a (c 0) x (value_of K.ops n (λ i. c (suc i)) x)

  neg_step : (c x t : F) → ⊖ c ⊕ x ⊗ ⊖ t ≡ ⊖ (c ⊕ x ⊗ t)
  neg_step c x t = simp ring

  pub value_of_neg : (n : ℕ) (c : ℕ → F) (x : F) → value_of K.ops n (λ i. ⊖ c i) x ≡ ⊖ value_of K.ops n c x
  unfolding value_of
  value_of_neg zero c x = simp ring
  value_of_neg (suc n) c x = ap (λ (t : F). ⊖ c 0 ⊕ x ⊗ t) (value_of_neg n (λ i. c (suc i)) x) ∙ neg_step (c 0) x (value_of K.ops n (λ i. c (suc i)) x)

  pub value_of_sub : (n : ℕ) (b c : ℕ → F) (x : F)
      → value_of K.ops n (λ i. sub K.ops (b i) (c i)) x ≡ sub K.ops (value_of K.ops n b x) (value_of K.ops n c x)
  value_of_sub n b c x = value_of_add n b (λ i. ⊖ c i) x ∙ ap (λ (t : F). value_of K.ops n b x ⊕ t) (value_of_neg n c x)

  pub value_of_zeros : (n : ℕ) (c : ℕ → F) (x : F) → ((i : ℕ) → i < n → c i ≡ 𝟘) → value_of K.ops n c x ≡ 𝟘
  unfolding value_of
  value_of_zeros zero c x h = refl
  value_of_zeros (suc n) c x h =
      ap₂ ◌⊕◌ (h 0 (omega arith)) (ap (λ (t : F). x ⊗ t) (value_of_zeros n (λ i. c (suc i)) x (λ i l. h (suc i) (omega arith))) ∙ mul-zero K x)
      ∙ add-zero K 𝟘

  -- Coefficients that are zero from m on add nothing.
  pub value_of_short : (m n : ℕ) (c : ℕ → F) (x : F) → m ≤ n → ((i : ℕ) → m ≤ i → i < n → c i ≡ 𝟘) → value_of K.ops n c x ≡ value_of K.ops m c x
  unfolding value_of
  value_of_short zero n c x l h = value_of_zeros n c x (λ i s. h i (omega arith) s)
  value_of_short (suc m) zero c x l h = absurd (omega arith)
  value_of_short (suc m) (suc n) c x l h =
      ap (λ (t : F). c 0 ⊕ x ⊗ t) (value_of_short m n (λ i. c (suc i)) x (omega arith) (λ i s r. h (suc i) (omega arith) (omega arith)))

  sum_step : (c x t : F) → c ⊗ 𝟙 ⊕ x ⊗ t ≡ c ⊕ x ⊗ t
  sum_step c x t = simp ring

  pub value_of_is_sum : (n : ℕ) (c : ℕ → F) (x : F) → value_of K.ops n c x ≡ sum K.ops n (λ i. c i ⊗ power K.ops x i)
  unfolding value_of sum power
  value_of_is_sum zero c x = refl
  value_of_is_sum (suc n) c x =
      ap (λ (t : F). c 0 ⊕ x ⊗ t) (value_of_is_sum n (λ i. c (suc i)) x)
      ∙ sym (sum_step (c 0) x (sum K.ops n (λ i. c (suc i) ⊗ power K.ops x i)))
      ∙ ap (λ (t : F). c 0 ⊗ 𝟙 ⊕ t)
      (sym (sum_scale K n x (λ i. c (suc i) ⊗ power K.ops x i))
      ∙ sum_ext K.ops n (λ i. x ⊗ (c (suc i) ⊗ power K.ops x i)) (λ i. c (suc i) ⊗ (x ⊗ power K.ops x i)) (λ i l. simp ring))
      ∙ sym (sum_first K n (λ i. c i ⊗ power K.ops x i))

  pub value_of_at_one : (n : ℕ) (c : ℕ → F) → value_of K.ops n c 𝟙 ≡ sum K.ops n c
  value_of_at_one n c =
      value_of_is_sum n c 𝟙
      ∙ sum_ext K.ops n (λ i. c i ⊗ power K.ops 𝟙 i) c (λ i l. ap (λ (t : F). c i ⊗ t) (power_of_one K i) ∙ mul_one K (c i))

  -- The value of a sum of m sequences is the sum of their values.
  pub value_of_of_sum : (n m : ℕ) (c : ℕ → ℕ → F) (x : F)
      → value_of K.ops n (λ i. sum K.ops m (λ j. c j i)) x ≡ sum K.ops m (λ j. value_of K.ops n (c j) x)
  unfolding sum
  value_of_of_sum n zero c x = value_of_zeros n (λ i. 𝟘) x (λ i l. refl)
  value_of_of_sum n (suc m) c x =
      value_of_add n (λ i. sum K.ops m (λ j. c j i)) (c m) x ∙ ap (λ (t : F). t ⊕ value_of K.ops n (c m) x) (value_of_of_sum n m c x)

  twist_step : (c a y t : F) → c ⊗ 𝟙 ⊕ y ⊗ (a ⊗ t) ≡ c ⊕ a ⊗ y ⊗ t
  twist_step c a y t = simp ring

  -- The twist: coefficients multiplied by the powers of a.
  pub value_of_twist : (n : ℕ) (c : ℕ → F) (a y : F) → value_of K.ops n (λ i. c i ⊗ power K.ops a i) y ≡ value_of K.ops n c (a ⊗ y)
  unfolding value_of power
  value_of_twist zero c a y = refl
  value_of_twist (suc n) c a y =
      ap (λ (t : F). c 0 ⊗ 𝟙 ⊕ y ⊗ t)
      (value_of_ext K.ops n (λ i. c (suc i) ⊗ (a ⊗ power K.ops a i)) (λ i. a ⊗ (c (suc i) ⊗ power K.ops a i)) y (λ i l. simp ring)
      ∙ value_of_scale n a (λ i. c (suc i) ⊗ power K.ops a i) y
      ∙ ap (λ (t : F). a ⊗ t) (value_of_twist n (λ i. c (suc i)) a y))
      ∙ twist_step (c 0) a y (value_of K.ops n (λ i. c (suc i)) (a ⊗ y))

  after_nil : (b x a : F) → b ⊕ x ⊗ 𝟘 ≡ b ⊕ (x ⊕ ⊖ a) ⊗ 𝟘
  after_nil b x a = simp ring

  after_step : (b c x a t : F) → (b ⊕ ⊖ (a ⊗ c)) ⊕ x ⊗ (c ⊕ (x ⊕ ⊖ a) ⊗ t) ≡ b ⊕ (x ⊕ ⊖ a) ⊗ (c ⊕ x ⊗ t)
  after_step b c x a t = simp ring

  value_times_root_after : (p : List F) (a b x : F) → value K.ops (times_root_after K.ops a b p) x ≡ b ⊕ (x ⊕ ⊖ a) ⊗ value K.ops p x
  unfolding value times_root_after
  value_times_root_after [] a b x = after_nil b x a
  value_times_root_after (c ∷ p) a b x =
      ap (λ (t : F). (b ⊕ ⊖ (a ⊗ c)) ⊕ x ⊗ t) (value_times_root_after p a c x) ∙ after_step b c x a (value K.ops p x)

  pub value_times_root : (p : List F) (a x : F) → value K.ops (times_root K.ops a p) x ≡ sub K.ops x a ⊗ value K.ops p x
  value_times_root p a x = value_times_root_after p a 𝟘 x ∙ zero-add K (sub K.ops x a ⊗ value K.ops p x)

  shift_nil : (t : F) → t ≡ 𝟙 ⊗ t
  shift_nil t = simp ring

  shift_step : (x s t : F) → 𝟘 ⊕ x ⊗ (s ⊗ t) ≡ x ⊗ s ⊗ t
  shift_step x s t = simp ring

  -- x^r × p has the value of p times the r-th power of the point.
  pub value_shift : (r : ℕ) (p : List F) (x : F) → value K.ops (replicate r 𝟘 ++ p) x ≡ power K.ops x r ⊗ value K.ops p x
  unfolding value power
  value_shift zero p x = shift_nil (value K.ops p x)
  value_shift (suc r) p x = ap (λ (t : F). 𝟘 ⊕ x ⊗ t) (value_shift r p x) ∙ shift_step x (power K.ops x r) (value K.ops p x)

length_times_root_after : {F : Type 0} (o : Ops F) (p : List F) (a b : F) → length (times_root_after o a b p) ≡ suc (length p)
unfolding times_root_after
length_times_root_after o [] a b = refl
length_times_root_after o (c ∷ p) a b = ap suc (length_times_root_after o p a c)

pub length_from_roots : {F : Type 0} (o : Ops F) (roots : List F) → length (from_roots o roots) ≡ suc (length roots)
unfolding from_roots
length_from_roots o [] = refl
length_from_roots o (a ∷ roots) = length_times_root_after o (from_roots o roots) a o.zero ∙ ap suc (length_from_roots o roots)

last_times_root_after : {F : Type 0} (o : Ops F) (p : List F) (a b : F) → get_or (times_root_after o a b p) (length p) o.zero ≡ get_or (b ∷ p) (length p) o.zero
unfolding times_root_after
last_times_root_after o [] a b = refl
last_times_root_after o (c ∷ p) a b = last_times_root_after o p a c

-- The product has the first coefficient 1.
pub monic_from_roots : {F : Type 0} (o : Ops F) (roots : List F) → get_or (from_roots o roots) (length roots) o.zero ≡ o.one
unfolding from_roots
monic_from_roots o [] = refl
monic_from_roots o (a ∷ roots) =
    ap (λ (t : ℕ). get_or (times_root o a (from_roots o roots)) t o.zero) (sym (length_from_roots o roots))
    ∙ last_times_root_after o (from_roots o roots) a o.zero
    ∙ ap (λ (t : ℕ). get_or (o.zero ∷ from_roots o roots) t o.zero) (length_from_roots o roots)
    ∙ monic_from_roots o roots

-- Membership in a list of points.
pub data In {F : Type 0} (x : F) : List F → Type 0 where
  here : {a : F} {points : List F} → x ≡ a → In x (a ∷ points)
  there : {a : F} {points : List F} → In x points → In x (a ∷ points)

module _ {F : Type 0} (K : Field F) where
  infixl 70 ◌⊗◌
  open K.ops use {mul as ◌⊗◌, zero as 𝟘, one as 𝟙}

  -- The product of (x - a) over a list of points vanishes at each of them..
  pub value_at_root : {x : F} {roots : List F} → In x roots → value K.ops (from_roots K.ops roots) x ≡ 𝟘
  unfolding from_roots
  value_at_root {x} (here {a = a} {points = roots} e) =
      value_times_root K (from_roots K.ops roots) a x
      ∙ ap (λ (t : F). t ⊗ value K.ops (from_roots K.ops roots) x) (ap (λ (t : F). sub K.ops t a) e ∙ add_neg K a)
      ∙ zero-mul K (value K.ops (from_roots K.ops roots) x)
  value_at_root {x} (there {a = a} {points = roots} h) =
      value_times_root K (from_roots K.ops roots) a x
      ∙ ap (λ (t : F). sub K.ops x a ⊗ t) (value_at_root h)
      ∙ mul-zero K (sub K.ops x a)

  -- .. and nowhere else.
  pub value_off_roots : (roots : List F) (x : F) → ((a : F) → In a roots → x ≡ a → ⊥)
      → value K.ops (from_roots K.ops roots) x ≡ 𝟘 → ⊥
  unfolding from_roots value
  value_off_roots [] x h e = K.one_nonzero (sym (simp ring) ∙ e)
  value_off_roots (a ∷ roots) x h e =
      value_off_roots roots x (λ c l. h c (there l))
      (mul_eq_zero K (sub K.ops x a) (value K.ops (from_roots K.ops roots) x) (λ z. h a (here refl) (eq_of_sub K x a z))
      (sym (value_times_root K (from_roots K.ops roots) a x) ∙ e))
