-- Arithmetic modulo p (01, "Two fields and three settings": "arithmetic is modulo 5").
-- Holds: `modular`.
use Rattle.std.specs.Prelude.{ℕ, ◌+◌, ◌-◌, ◌*◌, ◌%◌}
use Rattle.algebra.specs.Ops.{Ops}
use Rattle.field.specs.Numbers.{numbers}

unfoldable pub modular : ℕ → Ops ℕ
modular p = numbers p (λ a b. (a + b) % p) (λ a. (p - a) % p) (λ a b. a * b % p)
