-- Polynomials as coefficient lists, lowest power first (01, "The transmission").
-- Holds: `value`, the value of a polynomial as 01 words it; `times_root_after`, `times_root` and `from_roots`, products of (x - a).
use Rattle.std.specs.Prelude.{List, [], ◌∷◌}
use Rattle.algebra.specs.Ops.{Ops, sub}

-- "The value of a polynomial without coefficients is 0; otherwise it is the first coefficient plus the point times the value of the rest."
unfoldable pub value : {F : Type 0} → Ops F → List F → F → F
value o [] x = o.zero
value o (c ∷ rest) x = o.add c (o.mul x (value o rest x))

-- The coefficients of x × p - a × p, the coefficient before p being known.
unfoldable pub times_root_after : {F : Type 0} → Ops F → F → F → List F → List F
times_root_after o a before [] = before ∷ []
times_root_after o a before (c ∷ rest) = sub o before (o.mul a c) ∷ times_root_after o a c rest

-- (x - a) × p
abbrev pub times_root : {F : Type 0} → Ops F → F → List F → List F
times_root o a p = times_root_after o a o.zero p

-- The product of (x - a) over the points a of a list.
unfoldable pub from_roots : {F : Type 0} → Ops F → List F → List F
from_roots o [] = o.one ∷ []
from_roots o (a ∷ rest) = times_root o a (from_roots o rest)
