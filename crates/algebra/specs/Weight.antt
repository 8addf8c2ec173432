-- Weight: how many of the first n terms of a sequence are nonzero. Distance: in how many of the first n places two sequences of numbers differ.
-- Holds: `total`, `count_of`, `weight`, `distance`.
use Rattle.std.specs.Prelude.{Bool, not, ℕ, zero, suc, ◌+◌, eqb}
use Rattle.algebra.specs.Ops.{Ops, pick}

-- f 0 + .. + f (n - 1), of numbers
unfoldable pub total : ℕ → (ℕ → ℕ) → ℕ
total zero f = 0
total (suc n) f = total n f + f n

-- At how many of 0 .. n - 1 the test holds.
abbrev pub count_of : ℕ → (ℕ → Bool) → ℕ
count_of n test = total n (λ i. pick (test i) 1 0)

abbrev pub weight : {F : Type 0} → Ops F → ℕ → (ℕ → F) → ℕ
weight o n b = count_of n (λ i. not (o.is_zero (b i)))

abbrev pub distance : ℕ → (ℕ → ℕ) → (ℕ → ℕ) → ℕ
distance n a b = count_of n (λ i. not (eqb (a i) (b i)))
