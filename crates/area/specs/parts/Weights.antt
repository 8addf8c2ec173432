-- How many bytes of a list are not below a byte, and how many are not zero. Holds: `count_from`; `weight_to`, `weight_of`.
use Rattle.std.specs.Prelude.{not, List, ℕ, eqb, leb, length, get_or}
use Rattle.algebra.specs.Weight.{count_of}

-- Not below `least`, of all bytes.
abbrev pub count_from : ℕ → List ℕ → ℕ
count_from least l = count_of (length l) (λ i. leb least (get_or l i 0))

-- Not zero, of the first bytes.
abbrev pub weight_to : List ℕ → ℕ → ℕ
weight_to l to = count_of to (λ i. not (eqb (get_or l i 0) 0))

-- Of all.
abbrev pub weight_of : List ℕ → ℕ
weight_of l = weight_to l (length l)
