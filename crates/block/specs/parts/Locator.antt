-- Sequences and the recurrence that the locator makes them follow (Berlekamp and Massey's algorithm).
-- A series c with c_0 = 1 holds the known part of a spectrum from c_1 on. The locator σ of degree at most L annihilates it as far as it is known:
-- coefficient j of the product σ × c is zero for L < j ≤ s. The former locator is the one before the degree last changed, at place p.
-- Holds: `convolution`, `tail`, `Located`, `Subtracted`, `Extended`.
use Rattle.std.specs.Prelude.{◌≡◌, ℕ, suc, ◌+◌, ◌-◌, ◌≤◌, ◌<◌}
use Rattle.algebra.specs.Ops.{Ops, sub}
use Rattle.algebra.specs.Sum.{sum}

-- Coefficient j of the product of two series.
unfoldable pub convolution : {F : Type 0} → Ops F → (ℕ → F) → (ℕ → F) → ℕ → F
convolution o a b j = sum o (suc j) (λ i. o.mul (a i) (b (j - i)))

-- The same without the first coefficient of a locator of this degree: σ_1 c_(j-1) + .. + σ_L c_(j-L).
unfoldable pub tail : {F : Type 0} → Ops F → ℕ → (ℕ → F) → (ℕ → F) → ℕ → F
tail o L σ c j = sum o L (λ a. o.mul (σ (a + 1)) (c (j - (a + 1))))

-- σ is a locator of degree at most L for c_0 .. c_s, and τ the former one, of degree at most p - L, that fails first at place p; `scale` undoes its
-- discrepancy.
pub record Located {F : Type 0} (o : Ops F) (c : ℕ → F) (s L p : ℕ) (scale : F) (σ τ : ℕ → F) : Type 0 where
  pub grown : L ≤ p
  pub placed : p ≤ s
  pub first : σ 0 ≡ o.one
  pub short : (a : ℕ) → L < a → σ a ≡ o.zero
  pub annihilates : (j : ℕ) → L < j → j ≤ s → convolution o σ c j ≡ o.zero
  pub former_short : (a : ℕ) → p < L + a → τ a ≡ o.zero
  pub former_annihilates : (j : ℕ) → p < L + j → j < p → convolution o τ c j ≡ o.zero
  pub former_discrepancy : o.mul scale (convolution o τ c p) ≡ o.one

-- σ' is σ with a multiple of τ, moved up by `shift` places, subtracted: `count` terms of it.
pub record Subtracted {F : Type 0} (o : Ops F) (factor : F) (shift count : ℕ) (τ σ σ' : ℕ → F) : Type 0 where
  pub before : (i : ℕ) → i < shift → σ' i ≡ σ i
  pub inside : (i : ℕ) → i < count → σ' (shift + i) ≡ sub o (σ (shift + i)) (o.mul factor (τ i))
  pub after : (i : ℕ) → count ≤ i → σ' (shift + i) ≡ σ (shift + i)

-- d is c up to place r, and for m places more what the recurrence of the locator gives; `values` holds what c has besides.
pub record Extended {F : Type 0} (o : Ops F) (L r m : ℕ) (σ c d values : ℕ → F) : Type 0 where
  pub kept : (j : ℕ) → j ≤ r → d j ≡ c j
  pub recurs : (u : ℕ) → u < m → d (r + 1 + u) ≡ o.neg (tail o L σ d (r + 1 + u))
  pub difference : (u : ℕ) → u < m → values u ≡ o.add (c (r + 1 + u)) (tail o L σ d (r + 1 + u))
