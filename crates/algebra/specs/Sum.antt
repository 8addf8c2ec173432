-- Finite sums and powers over any operations. The last term stands apart, as an upward loop adds it.
-- Holds: `sum`, `power`.
use Rattle.std.specs.Prelude.{ℕ, zero, suc}
use Rattle.algebra.specs.Ops.{Ops}

-- f 0 + .. + f (n - 1)
unfoldable pub sum : {F : Type 0} → Ops F → ℕ → (ℕ → F) → F
sum o zero f = o.zero
sum o (suc n) f = o.add (sum o n f) (f n)

-- a multiplied with itself n times
unfoldable pub power : {F : Type 0} → Ops F → F → ℕ → F
power o a zero = o.one
power o a (suc n) = o.mul a (power o a n)
