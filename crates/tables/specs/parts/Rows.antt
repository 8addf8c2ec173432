-- The tables of a setting: the generator as 01 keeps it and its rows one after the other.
-- Holds: `generator_of`, `rows_length`; the limits `longest_rows`, `longest_block`, `Narrow`; `LaidOut`, `RowsOf`, `Ready`.
use Rattle.std.specs.Prelude.{◌≡◌, List, [], ℕ, ◌+◌, ◌*◌, ◌≤◌, ◌<◌, length, get_or}
use Rattle.area.specs.Lists.{tabulate}
use Rattle.field.specs.parts.Products.{Products, ProductsOf}
use Rattle.code.specs.declared.Setting.{Setting}
use Rattle.code.specs.Generator.{row_symbol}
use Rattle.code.specs.Settings.{settings, code_of, largest}
use Rattle.code.specs.parts.Sound.{Sound}

-- "kept power of z by power of z, row by row, as one nested table"
unfoldable pub generator_of : Setting → List (List (List ℕ))
generator_of p = tabulate (p.m + 1) (λ j. tabulate p.k (λ r. tabulate p.n (λ i. row_symbol (code_of p) j r i)))

-- How many symbols a setting's rows have.
abbrev pub rows_length : Setting → ℕ
rows_length p = p.k * (p.m + 1) * p.n

-- The most symbols of any setting's rows, and of a block.
abbrev pub longest_rows : ℕ
longest_rows = largest rows_length settings

abbrev pub longest_block : ℕ
longest_block = largest (λ p. p.n) settings

-- A setting whose rows and blocks have room in the areas that a call makes: every setting so far.
pub record Narrow (p : Setting) : Type 0 where
  pub rows : rows_length p ≤ longest_rows
  pub block : p.n ≤ longest_block

-- The rows of a table of `powers` groups of k rows of n symbols stand one after the other at the front of an area: symbol i of row r of group j at
-- (r × powers + j) × n + i.
pub record LaidOut (n k powers : ℕ) (table : List (List (List ℕ))) (area : List ℕ) : Type 0 where
  pub at : (j r i : ℕ) → j < powers → r < k → i < n → get_or area ((r * powers + j) * n + i) 0 ≡ get_or (get_or (get_or table j []) r []) i 0

-- The rows stand one after the other at the front of an area, row r of G_0, .., G_m before row r + 1 of them: symbol i of row r of G_j at (r (m+1) + j) n + i.
pub record RowsOf (p : Setting) (rows : List ℕ) : Type 0 where
  pub room : rows_length p ≤ length rows
  pub at : (j r i : ℕ) → j < p.m + 1 → r < p.k → i < p.n → get_or rows ((r * (p.m + 1) + j) * p.n + i) 0 ≡ row_symbol (code_of p) j r i

-- What a setting's functions are lent: its field's products and its rows.
pub record Ready (p : Setting) (lent_products : Products) (lent_rows : List ℕ) : Type 0 where
  pub sound : Sound p
  pub products : ProductsOf p.q lent_products
  pub rows : RowsOf p lent_rows
