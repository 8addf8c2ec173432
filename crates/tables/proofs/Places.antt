-- Where symbols stand in a setting's rows, with the bounds that the code asks; sums that the loops make.
-- Holds: `place_of`, `first_place`; `product_sum`, `product_sum_all` (the sum over the rows of G_j), `combination_sum`, `combination_sum_all`.
use mathlib.Core.Path.{◌≡◌, sym, ap, subst}
use mathlib.Core.List.{List}
use Prim.Native.Nat.{ℕ, ◌+◌, ◌-◌, ◌*◌, ◌≤◌, ◌<◌}
use native.Mathlib.Numerals.{add-one}
use native.Mathlib.Omega.{arith}
use lib.Arith.{digits_lt}
use lib.ListN.{length, get_or}
use Rattle.algebra.specs.Sum.{sum}
use Rattle.algebra.proofs.Sums.{sum_ext}
use Rattle.area.specs.Lists.{view}
use Rattle.field.specs.Fields.{ops_of}
use Rattle.field.specs.parts.Sequences.{at}
use Rattle.code.specs.declared.Setting.{Setting}
use Rattle.code.specs.Generator.{times_g}
use Rattle.code.specs.Level.{combination}
use Rattle.code.specs.Settings.{code_of}
use Rattle.code.specs.parts.Sound.{Sound}
use Rattle.code.proofs.Settings.{block_positive}
use Rattle.code.proofs.CodeBelow.{row_symbol_below}
use Rattle.tables.specs.parts.Rows.{rows_length, RowsOf}

-- The place of symbol i of row r of G_j is in the rows, and the symbol there is below q.
pub place_of : (p : Setting) → Sound p → (rows : List ℕ) → RowsOf p rows → (j r i : ℕ) → j ≤ p.m → r < p.k → i < p.n
    → ((r * (p.m + 1) + j) * p.n + i < length rows) × (get_or rows ((r * (p.m + 1) + j) * p.n + i) 0 < p.q)
place_of p S rows R j r i lj lr li =
    let inside : j < p.m + 1 = omega arith in
    let fits : (r * (p.m + 1) + j) * p.n + i < rows_length p = digits_lt (digits_lt lr inside) li in
    (omega (arith, fits, R.room), subst (λ (t : ℕ). t < p.q) (sym (R.at j r i inside lr li)) (row_symbol_below p S j r i))

-- There is a first symbol.
pub first_place : (p : Setting) → Sound p → (rows : List ℕ) → RowsOf p rows → (0 < length rows) × (get_or rows 0 0 < p.q)
first_place p S rows R =
    let at = place_of p S rows R 0 0 0 (omega arith) S.information (block_positive p S) in
    let first : (0 * (p.m + 1) + 0) * p.n + 0 ≡ 0 = omega arith in
    (subst (λ (t : ℕ). t < length rows) first at.0, subst (λ (t : ℕ). get_or rows t 0 < p.q) first at.1)

-- The first r terms of the sum over the rows of G_j, from the lent rows.
abbrev pub product_sum : ℕ → List ℕ → List ℕ → ℕ → ℕ → ℕ → ℕ → ℕ → ℕ
product_sum q rows block n powers j i r = sum (ops_of q) r (λ a. (ops_of q).mul (at block a) (get_or rows ((a * powers + j) * n + i) 0))

-- The whole sum is (information block) × G_j.
pub product_sum_all : (p : Setting) (rows block : List ℕ) (j i : ℕ) → RowsOf p rows → j ≤ p.m → i < p.n
    → product_sum p.q rows block p.n (p.m + 1) j i p.k ≡ times_g (code_of p) (at block) j i
unfolding times_g
product_sum_all p rows block j i R lj li =
    let below : j < p.m + 1 = omega arith in
    sum_ext (ops_of p.q) p.k _ _ (λ a l. ap ((ops_of p.q).mul (at block a)) (R.at j a i below l li))

-- The first j terms of a combination.
abbrev pub combination_sum : Setting → List ℕ → ℕ → ℕ → ℕ → ℕ
combination_sum p information l i j = sum (ops_of p.q) j (λ b. times_g (code_of p) (view p.k information (l - b)) b i)

pub combination_sum_all : (p : Setting) (information : List ℕ) (l i : ℕ)
    → combination_sum p information l i (l + 1) ≡ combination (code_of p) l (view p.k information) i
unfolding combination
combination_sum_all p information l i = ap (combination_sum p information l i) (add-one l)
