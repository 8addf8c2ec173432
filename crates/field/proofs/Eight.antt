-- The field with eight elements by its powers of α (01, "Two fields and three settings").
-- Holds: `eight_lawful`.
use mathlib.Core.Path.{refl}
use mathlib.Core.List.{List, [], ◌∷◌}
use Prim.Native.Nat.{ℕ}
use lib.Dec.{lit<, lit≤}
use Rattle.algebra.specs.Sum.{sum}
use Rattle.algebra.proofs.Tests.{all}
use Rattle.field.specs.Binary.{times_alpha, binary}
use Rattle.field.specs.Fields.{eight, eight_polynomial}
use Rattle.field.proofs.Lawful.{Lawful}
use Rattle.field.proofs.FromPowers.{Listed, listed_by_tests}
use Rattle.field.proofs.Binary.{binary_lawful}

abbrev powers : List ℕ
powers = 1 ∷ 2 ∷ 4 ∷ 3 ∷ 6 ∷ 7 ∷ 5 ∷ []

abbrev exponents : List ℕ
exponents = 0 ∷ 0 ∷ 1 ∷ 3 ∷ 2 ∷ 6 ∷ 4 ∷ 5 ∷ []

listed : Listed 8 7 (times_alpha 3 eight_polynomial) powers exponents
unfolding all times_alpha
listed = listed_by_tests 8 7 (times_alpha 3 eight_polynomial) powers exponents tt tt tt tt tt tt tt tt

pub eight_lawful : Lawful 8 eight
unfolding eight times_alpha binary sum
eight_lawful = binary_lawful 3 eight_polynomial (lit≤ tt) (lit< tt) powers exponents listed refl refl (lit≤ tt)
