-- Block facts over any field, α of order n and 1 ≤ k ≤ n (000, section 2 and Theorem 3.1): zeros of f, twist, spectrum.
-- Holds: `code_over`; `times_g_ext` and `combination_ext` (only the information's symbols count); `generator_polynomial_zero` and
-- `generator_polynomial_nonzero` (the zeros of f); `value_of_times_g` (the value of x × G_j); `spectrum_combination`, `combination_vanishes` and
-- `combination_on_stretch` (the spectrum of a combination).
use mathlib.Core.Path.{◌≡◌, refl, sym, ap, ap₂, ◌∙◌}
use mathlib.Core.List.{List, ◌∷◌, ◌++◌}
use Prim.Native.Nat.{ℕ, zero, suc, ◌+◌, ◌-◌, ◌*◌, ◌≤◌, ◌<◌}
use native.Mathlib.Nat.{mul-le-mul_right}
use native.Mathlib.Omega.{arith}
use native.Mathlib.Decide.{dec_lt}
use lib.ListN.{length, get_or, replicate, length-append, length-replicate, get_or-eq_default}
use Rattle.algebra.specs.Ops.{Ops}
use Rattle.algebra.specs.Sum.{sum, power}
use Rattle.algebra.specs.Polynomial.{value}
use Rattle.algebra.specs.parts.Values.{value_of}
use Rattle.algebra.proofs.Laws.{Field, mul-zero, mul_comm, ring}
use Rattle.algebra.proofs.HasOrder.{HasOrder}
use Rattle.algebra.proofs.Sums.{sum_ext, sum_scale, sum_zeros, sum_single}
use Rattle.algebra.proofs.Powers.{power_add, power_power, power_wraps}
use Rattle.algebra.proofs.Polynomials.{value_of_ext, value_of_short, value_of_scale, value_of_twist, value_of_of_sum, value_of_is_sum, value_is_value_of}
use Rattle.algebra.proofs.Polynomials.{value_shift, value_at_root, value_off_roots, length_from_roots, In, here, there}
use Rattle.code.specs.Code.{Code}
use Rattle.code.specs.Generator.{points, generator_polynomial, row_symbol, times_g}
use Rattle.code.specs.Level.{combination}

-- The code with these parameters over a field.
abbrev pub code_over : {F : Type 0} → Field F → F → ℕ → ℕ → ℕ → Code F
code_over K α n k m = record { ops = K.ops; α = α; n = n; k = k; m = m }

-- A product with G_j and a combination look only at the symbols of the information, over any operations.
module _ {F : Type 0} (c : Code F) where
  pub times_g_ext : (x y : ℕ → F) (j i : ℕ) → ((r : ℕ) → r < c.k → x r ≡ y r) → times_g c x j i ≡ times_g c y j i
  unfolding times_g
  times_g_ext x y j i same =
      sum_ext c.ops c.k (λ r. c.ops.mul (x r) (row_symbol c j r i)) (λ r. c.ops.mul (y r) (row_symbol c j r i))
      (λ r l. ap (λ t. c.ops.mul t (row_symbol c j r i)) (same r l))

  pub combination_ext : (l : ℕ) (x y : ℕ → ℕ → F) (i : ℕ) → ((b r : ℕ) → b ≤ l → r < c.k → x b r ≡ y b r) → combination c l x i ≡ combination c l y i
  unfolding combination
  combination_ext l x y i same =
      sum_ext c.ops (suc l) (λ j. times_g c (x (l - j)) j i) (λ j. times_g c (y (l - j)) j i)
      (λ j h. times_g_ext (x (l - j)) (y (l - j)) j i (λ r s. same (l - j) r (omega arith) s))

module _ {F : Type 0} (o : Ops F) (α : F) where
  pub length_points : (r : ℕ) → length (points o α r) ≡ r
  unfolding points
  length_points zero = refl
  length_points (suc r) = ap suc (length_points r)

  in_points : (r i : ℕ) → i < r → In (power o α i) (points o α r)
  unfolding points
  in_points zero i l = absurd (omega arith)
  in_points (suc r) i l = at (dec_lt i r) (λ s. in_points r i s)
    where
      at : Dec (i < r) → (i < r → In (power o α i) (points o α r)) → In (power o α i) (power o α r ∷ points o α r)
      at (yes s) rest = there (rest s)
      at (no d) rest = let same : i ≡ r = omega arith in here (ap (power o α) same)

  of_points : (r : ℕ) {x : F} → In x (points o α r) → (i : ℕ) × (i < r) × (x ≡ power o α i)
  unfolding points
  of_points zero h = elim h [ ]
  of_points (suc r) {x} h = at h (λ s. of_points r s)
    where
      at : In x (power o α r ∷ points o α r) → (In x (points o α r) → (i : ℕ) × (i < r) × (x ≡ power o α i)) → (i : ℕ) × (i < suc r) × (x ≡ power o α i)
      at (here e) rest = (r, omega arith, e)
      at (there s) rest = let w = rest s in (w.0, omega (arith, w.1), w.2)

module _ {F : Type 0} (K : Field F) (α : F) (n k m : ℕ) where
  infixl 70 ◌⊗◌
  open K.ops use {mul as ◌⊗◌, zero as 𝟘, one as 𝟙}

  abbrev c : Code F
  c = code_over K α n k m

  abbrev pow : ℕ → F
  pow i = power K.ops α i

  pub generator_polynomial_zero : (s : ℕ) → s < n - k → value K.ops (generator_polynomial c) (pow s) ≡ 𝟘
  unfolding generator_polynomial
  generator_polynomial_zero s l = value_at_root K (in_points K.ops α (n - k) s l)

  pub length_generator_polynomial : length (generator_polynomial c) ≡ suc (n - k)
  unfolding generator_polynomial
  length_generator_polynomial = length_from_roots K.ops (points K.ops α (n - k)) ∙ ap suc (length_points K.ops α (n - k))

  -- The value of row r of G_j: that of x^r × f at the twisted point.
  value_of_row : (j r : ℕ) (y : F) → r < k → k ≤ n
      → value_of K.ops n (row_symbol c j r) y ≡ power K.ops (pow (j * k) ⊗ y) r ⊗ value K.ops (generator_polynomial c) (pow (j * k) ⊗ y)
  unfolding row_symbol
  value_of_row j r y l h =
      value_of_ext K.ops n (λ i. get_or row i 𝟘 ⊗ pow (j * k * i)) (λ i. get_or row i 𝟘 ⊗ power K.ops (pow (j * k)) i) y
      (λ i s. ap (λ (t : F). get_or row i 𝟘 ⊗ t) (sym (power_power K α (j * k) i)))
      ∙ value_of_twist K n (λ i. get_or row i 𝟘) (pow (j * k)) y
      ∙ value_of_short K (length row) n (λ i. get_or row i 𝟘) (pow (j * k) ⊗ y) (omega (arith, length_row)) (λ i s u. get_or-eq_default row 𝟘 s)
      ∙ sym (value_is_value_of K.ops row (pow (j * k) ⊗ y))
      ∙ value_shift K r (generator_polynomial c) (pow (j * k) ⊗ y)
    where
      row : List F
      row = replicate r 𝟘 ++ generator_polynomial c

      length_row : length row ≡ r + suc (n - k)
      length_row = length-append (replicate r 𝟘) (generator_polynomial c) ∙ ap₂ ◌+◌ (length-replicate r 𝟘) length_generator_polynomial

  row_step : (x p v : F) → x ⊗ (p ⊗ v) ≡ v ⊗ (x ⊗ p)
  row_step x p v = simp ring

  -- The value of (information block x) × G_j.
  pub value_of_times_g : (x : ℕ → F) (j : ℕ) (y : F) → k ≤ n
      → value_of K.ops n (times_g c x j) y ≡ value_of K.ops k x (pow (j * k) ⊗ y) ⊗ value K.ops (generator_polynomial c) (pow (j * k) ⊗ y)
  unfolding times_g
  value_of_times_g x j y h =
      value_of_of_sum K n k (λ r i. x r ⊗ row_symbol c j r i) y
      ∙ sum_ext K.ops k (λ r. value_of K.ops n (λ i. x r ⊗ row_symbol c j r i) y)
      (λ r. value K.ops (generator_polynomial c) e ⊗ (x r ⊗ power K.ops e r))
      (λ r l. value_of_scale K n (x r) (row_symbol c j r) y ∙ ap (λ (t : F). x r ⊗ t) (value_of_row j r y l h)
      ∙ row_step (x r) (power K.ops e r) (value K.ops (generator_polynomial c) e))
      ∙ sum_scale K k (value K.ops (generator_polynomial c) e) (λ r. x r ⊗ power K.ops e r)
      ∙ ap (λ (t : F). value K.ops (generator_polynomial c) e ⊗ t) (sym (value_of_is_sum K k x e))
      ∙ mul_comm K (value K.ops (generator_polynomial c) e) (value_of K.ops k x e)
    where
      e : F
      e = pow (j * k) ⊗ y

  -- What information block x contributes to the spectrum where its exponent is e.
  unfoldable pub part : (ℕ → F) → ℕ → F
  part x e = value_of K.ops k x (pow e) ⊗ value K.ops (generator_polynomial c) (pow e)

  pub spectrum_combination : (l : ℕ) (x : ℕ → ℕ → F) (s : ℕ) → k ≤ n
      → value_of K.ops n (combination c l x) (pow s) ≡ sum K.ops (suc l) (λ j. part (x (l - j)) (j * k + s))
  unfolding combination part
  spectrum_combination l x s h =
      value_of_of_sum K n (suc l) (λ j i. times_g c (x (l - j)) j i) (pow s)
      ∙ sum_ext K.ops (suc l) (λ j. value_of K.ops n (times_g c (x (l - j)) j) (pow s)) (λ j. part (x (l - j)) (j * k + s))
      (λ j u. value_of_times_g (x (l - j)) j (pow s) h
      ∙ ap (λ (t : F). value_of K.ops k (x (l - j)) t ⊗ value K.ops (generator_polynomial c) t) (sym (power_add K α (j * k) s)))

  pub part_low : (x : ℕ → F) (e : ℕ) → e < n - k → part x e ≡ 𝟘
  unfolding part
  part_low x e l = ap (λ (t : F). value_of K.ops k x (pow e) ⊗ t) (generator_polynomial_zero e l) ∙ mul-zero K (value_of K.ops k x (pow e))

  -- A combination of level l vanishes at α^0 .. α^(n-(l+1)k-1).
  pub combination_vanishes : (l : ℕ) (x : ℕ → ℕ → F) (s : ℕ) → (l + 1) * k ≤ n → s < n - (l + 1) * k
      → value_of K.ops n (combination c l x) (pow s) ≡ 𝟘
  combination_vanishes l x s h r =
      spectrum_combination l x s (omega (arith, mul-le-mul_right k one_le))
      ∙ sum_zeros K (suc l) (λ j. part (x (l - j)) (j * k + s)) (λ j u. part_low (x (l - j)) (j * k + s) (low j u))
    where
      one_le : 1 ≤ l + 1
      one_le = omega arith

      low : (j : ℕ) → j < suc l → j * k + s < n - k
      low j u =
          let below : j ≤ l = omega arith in
          omega (arith, mul-le-mul_right k below)

  module _ (order : HasOrder K.ops n α) where
    pub generator_polynomial_nonzero : (s : ℕ) → n - k ≤ s → s < n → value K.ops (generator_polynomial c) (pow s) ≡ 𝟘 → ⊥
    unfolding generator_polynomial
    generator_polynomial_nonzero s h l =
        value_off_roots K (points K.ops α (n - k)) (pow s) (λ a u e. other (of_points K.ops α (n - k) u) e)
      where
        other : {a : F} → (i : ℕ) × (i < n - k) × (a ≡ pow i) → pow s ≡ a → ⊥
        other w e = let same : s ≡ w.0 = order.distinct s w.0 l (omega (arith, w.1)) (e ∙ w.2) in omega (arith, w.1)

    part_wrapped : (x : ℕ → F) (e : ℕ) → n ≤ e → e - n < n - k → part x e ≡ 𝟘
    unfolding part
    part_wrapped x e h l =
        let wraps : n + (e - n) ≡ e = omega arith in
        ap (λ (t : F). value_of K.ops k x (pow e) ⊗ t)
        (ap (value K.ops (generator_polynomial c)) (ap pow (sym wraps) ∙ power_wraps K n α order (e - n)) ∙ generator_polynomial_zero (e - n) l)
        ∙ mul-zero K (value_of K.ops k x (pow e))

    -- On the stretch of G_j only its term is left of the spectrum.
    pub combination_on_stretch : (l j : ℕ) (x : ℕ → ℕ → F) (s : ℕ) → (l + 1) * k ≤ n → j ≤ l → n ≤ s + (j + 1) * k → s + j * k < n
        → value_of K.ops n (combination c l x) (pow s) ≡ part (x (l - j)) (j * k + s)
    combination_on_stretch l j x s h below from to =
        spectrum_combination l x s (omega (arith, mul-le-mul_right k one_le))
        ∙ sum_single K (suc l) j (λ i. part (x (l - i)) (i * k + s)) (omega arith) (λ i u d. other i u d (dec_lt i j))
      where
        one_le : 1 ≤ l + 1
        one_le = omega arith

        other : (i : ℕ) → i < suc l → (i ≡ j → ⊥) → Dec (i < j) → part (x (l - i)) (i * k + s) ≡ 𝟘
        other i u d (yes b) =
            let next : i + 1 ≤ j = omega arith in
            part_low (x (l - i)) (i * k + s) (omega (arith, mul-le-mul_right k next))
        other i u d (no b) =
            let next : j + 1 ≤ i = omega arith in
            let top : i + 1 ≤ l + 1 = omega arith in
            part_wrapped (x (l - i)) (i * k + s) (omega (arith, mul-le-mul_right k next)) (omega (arith, mul-le-mul_right k top, mul-le-mul_right k next))
