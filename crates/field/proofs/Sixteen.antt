-- The field with sixteen elements by its powers of α (02, #101).
-- Holds: `sixteen_lawful`.
use mathlib.Core.Path.{refl}
use mathlib.Core.List.{List, [], ◌∷◌}
use Prim.Native.Nat.{ℕ}
use lib.Dec.{lit<, lit≤}
use Rattle.algebra.specs.Sum.{sum}
use Rattle.algebra.proofs.Tests.{all}
use Rattle.field.specs.Binary.{times_alpha, binary}
use Rattle.field.specs.Fields.{sixteen, sixteen_polynomial}
use Rattle.field.proofs.Lawful.{Lawful}
use Rattle.field.proofs.FromPowers.{Listed, listed_by_tests}
use Rattle.field.proofs.Binary.{binary_lawful}

abbrev powers : List ℕ
powers = 1 ∷ 2 ∷ 4 ∷ 8 ∷ 3 ∷ 6 ∷ 12 ∷ 11 ∷ 5 ∷ 10 ∷ 7 ∷ 14 ∷ 15 ∷ 13 ∷ 9 ∷ []

abbrev exponents : List ℕ
exponents = 0 ∷ 0 ∷ 1 ∷ 4 ∷ 2 ∷ 8 ∷ 5 ∷ 10 ∷ 3 ∷ 14 ∷ 9 ∷ 7 ∷ 6 ∷ 13 ∷ 11 ∷ 12 ∷ []

listed : Listed 16 15 (times_alpha 4 sixteen_polynomial) powers exponents
unfolding all times_alpha
listed = listed_by_tests 16 15 (times_alpha 4 sixteen_polynomial) powers exponents tt tt tt tt tt tt tt tt

pub sixteen_lawful : Lawful 16 sixteen
unfolding sixteen times_alpha binary sum
sixteen_lawful = binary_lawful 4 sixteen_polynomial (lit≤ tt) (lit< tt) powers exponents listed refl refl (lit≤ tt)
