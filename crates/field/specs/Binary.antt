-- Fields whose elements are polynomials in α with coefficients 0 and 1 (01, "Two fields and three settings"):
-- bit i of a number is the coefficient of α^i, addition is exclusive or, and products are those of polynomials,
-- brought below α^w by a polynomial of degree w that α makes zero.
-- Holds: `times_alpha`, `times_bits`, `binary`.
use Rattle.std.specs.Prelude.{ℕ, zero, suc, ◌*◌, ◌/◌, ◌%◌, ◌^◌, eqb, ltb}
use Rattle.std.specs.Int.Bits.{bit_xor}
use Rattle.algebra.specs.Ops.{Ops, pick}
use Rattle.field.specs.Numbers.{numbers}

-- α × a: every bit moves up one place; where α^w appears, the polynomial r that α makes zero is subtracted.
unfoldable pub times_alpha : ℕ → ℕ → ℕ → ℕ
times_alpha w r a = pick (ltb (a * 2) (2 ^ w)) (a * 2) (bit_xor (a * 2) r)

-- a × b by the lowest k bits of a: b if the lowest bit is set, and α times the product by the bits above it.
unfoldable pub times_bits : (ℕ → ℕ) → ℕ → ℕ → ℕ → ℕ
times_bits double zero a b = 0
times_bits double (suc k) a b = bit_xor (pick (eqb (a % 2) 1) b 0) (double (times_bits double k (a / 2) b))

-- The field with w bits a symbol where the polynomial r is zero at α.
unfoldable pub binary : ℕ → ℕ → Ops ℕ
binary w r = numbers (2 ^ w) bit_xor (λ a. a) (times_bits (times_alpha w r) w)
