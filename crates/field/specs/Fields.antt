-- The fields of 01 ("Two fields and three settings") and of 02 (#101), and the field with q elements, q chosen at run time.
-- Holds: `five`, `eight_polynomial`, `eight`, `sixteen_polynomial`, `sixteen`, `alpha`; `FieldEntry`, `fields`, `field_of`, `ops_of` (the field with q
-- elements); the lists of the powers of α, computed (`powers_of_five`, `powers_of_eight`, `powers_of_sixteen`).
use Rattle.std.specs.Prelude.{◌≡◌, refl, List, [], ◌∷◌, ℕ, eqb}
use Rattle.algebra.specs.Ops.{Ops, pick}
use Rattle.algebra.specs.Sum.{power}
use Rattle.area.specs.Lists.{tabulate}
use Rattle.field.specs.Numbers.{numbers}
use Rattle.field.specs.Modular.{modular}
use Rattle.field.specs.Binary.{times_alpha, times_bits, binary}

-- Five elements: arithmetic modulo 5.
unfoldable pub five : Ops ℕ
five = modular 5

-- Eight elements: three bits a symbol, α³ = α + 1. The polynomial that α makes zero, α³ + α + 1, has the bits 1011.
abbrev pub eight_polynomial : ℕ
eight_polynomial = 11

unfoldable pub eight : Ops ℕ
eight = binary 3 eight_polynomial

-- Sixteen elements: four bits a symbol, α⁴ = α + 1 (02, #101). The polynomial that α makes zero, α⁴ + α + 1, has the bits 10011.
abbrev pub sixteen_polynomial : ℕ
sixteen_polynomial = 19

unfoldable pub sixteen : Ops ℕ
sixteen = binary 4 sixteen_polynomial

-- α as a number is the same in every field.
abbrev pub alpha : ℕ
alpha = 2

-- A field in use: how many elements it has, and its operations.
pub record FieldEntry : Type 0 where
  pub elements : ℕ
  pub ops : Ops ℕ

abbrev entry : ℕ → Ops ℕ → FieldEntry
entry q o = record { elements = q; ops = o }

-- The fields in use.
abbrev pub fields : List FieldEntry
fields = entry 5 five ∷ entry 8 eight ∷ entry 16 sixteen ∷ []

-- The operations with q elements; what they are where no field has q elements matters nowhere, since every function asks for one that has.
abbrev pub field_of : ℕ → List FieldEntry → Ops ℕ
field_of q [] = five
field_of q (f ∷ rest) = pick (eqb q f.elements) f.ops (field_of q rest)

-- The field with q elements. Its zero, one and zero test are the same for every q.
unfoldable pub ops_of : ℕ → Ops ℕ
ops_of q = numbers q (field_of q fields).add (field_of q fields).neg (field_of q fields).mul

-- Examples, computed: the powers of α from α^0 on.
pub powers_of_five : tabulate 4 (power five alpha) ≡ 1 ∷ 2 ∷ 4 ∷ 3 ∷ []
unfolding tabulate power five modular
powers_of_five = refl

-- "the powers α^0 to α^6 are 1 2 4 3 6 7 5"
pub powers_of_eight : tabulate 7 (power eight alpha) ≡ 1 ∷ 2 ∷ 4 ∷ 3 ∷ 6 ∷ 7 ∷ 5 ∷ []
unfolding tabulate power eight binary times_bits times_alpha
powers_of_eight = refl

pub powers_of_sixteen : tabulate 15 (power sixteen alpha)
    ≡ 1 ∷ 2 ∷ 4 ∷ 8 ∷ 3 ∷ 6 ∷ 12 ∷ 11 ∷ 5 ∷ 10 ∷ 7 ∷ 14 ∷ 15 ∷ 13 ∷ 9 ∷ []
unfolding tabulate power sixteen binary times_bits times_alpha
powers_of_sixteen = refl
