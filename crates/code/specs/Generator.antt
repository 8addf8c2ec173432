-- The generator G_0 + G_1 z + .. + G_m z^m (000, Theorem 3.1; 01, "The transmission").
-- Holds: `points`, the powers α^0 .. α^(r-1); `generator_polynomial`, 01's f; `row_symbol`, a symbol of a row of G_j; `times_g`, a symbol of (information block)
-- × G_j.
use Rattle.std.specs.Prelude.{List, [], ◌∷◌, ◌++◌, ℕ, zero, suc, ◌-◌, ◌*◌, get_or, replicate}
use Rattle.algebra.specs.Ops.{Ops}
use Rattle.algebra.specs.Sum.{sum, power}
use Rattle.algebra.specs.Polynomial.{from_roots}
use Rattle.code.specs.Code.{Code}

-- α^(r-1), .., α^0
unfoldable pub points : {F : Type 0} → Ops F → F → ℕ → List F
points o α zero = []
points o α (suc r) = power o α r ∷ points o α r

-- "Let f be the product of (x - α^i) for i from 0 to n-k-1, written lowest power first."
unfoldable pub generator_polynomial : {F : Type 0} → Code F → List F
generator_polynomial c = from_roots c.ops (points c.ops c.α (c.n - c.k))

-- "Row r holds the coefficients of x^r × f with the coefficient of x^i multiplied by α^(jki)": symbol i of row r of G_j.
unfoldable pub row_symbol : {F : Type 0} → Code F → ℕ → ℕ → ℕ → F
row_symbol c j r i = c.ops.mul (get_or (replicate r c.ops.zero ++ generator_polynomial c) i c.ops.zero) (power c.ops c.α (j * c.k * i))

-- Symbol i of (information block x) × G_j.
unfoldable pub times_g : {F : Type 0} → Code F → (ℕ → F) → ℕ → ℕ → F
times_g c x j i = sum c.ops c.k (λ r. c.ops.mul (x r) (row_symbol c j r i))
