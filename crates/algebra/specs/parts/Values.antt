-- Values of polynomials whose coefficients are the terms of a sequence, as the proofs and the inner loops use them.
-- Holds: `value_of`, the value of the first n terms; `falling`, the value with the powers falling.
use Rattle.std.specs.Prelude.{ℕ, zero, suc}
use Rattle.algebra.specs.Ops.{Ops}

-- The value of the polynomial whose coefficients are the first n terms of a sequence.
unfoldable pub value_of : {F : Type 0} → Ops F → ℕ → (ℕ → F) → F → F
value_of o zero c x = o.zero
value_of o (suc n) c x = o.add (c 0) (o.mul x (value_of o n (λ i. c (suc i)) x))

-- v_0 x^n + .. + v_(n-1) x, as an upward loop makes it.
unfoldable pub falling : {F : Type 0} → Ops F → ℕ → (ℕ → F) → F → F
falling o zero v x = o.zero
falling o (suc n) v x = o.mul (o.add (falling o n v x) (v n)) x
