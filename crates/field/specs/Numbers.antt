-- A field of numbers below q from its sum, negative and product.
-- Holds: `inverse_below`, `numbers`.
use Rattle.std.specs.Prelude.{ℕ, zero, suc, eqb}
use Rattle.algebra.specs.Ops.{Ops, pick}

-- The largest number below n whose product with a is 1; 0 if there is none. So the inverse of 0 counts as 0.
unfoldable pub inverse_below : (ℕ → ℕ → ℕ) → ℕ → ℕ → ℕ
inverse_below product zero a = 0
inverse_below product (suc n) a = pick (eqb (product a n) 1) n (inverse_below product n a)

-- Zero is 0 and one is 1; the inverse is looked for among the numbers below q.
abbrev pub numbers : ℕ → (ℕ → ℕ → ℕ) → (ℕ → ℕ) → (ℕ → ℕ → ℕ) → Ops ℕ
numbers q sum negative product =
    record {
      zero = 0;
      one = 1;
      add = sum;
      neg = negative;
      mul = product;
      inv = inverse_below product q;
      is_zero = λ a. eqb a 0;
    }
