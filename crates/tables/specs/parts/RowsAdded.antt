-- Multiples of the generator's rows, added to a window. Holds: `MultipleAdded`, `plus_row`, `RowsAdded`.
use Rattle.std.specs.Prelude.{◌≡◌, List, ℕ, ◌+◌, ◌≤◌, ◌<◌, length, get_or}
use Rattle.area.specs.Lists.{view}
use Rattle.field.specs.Fields.{ops_of}
use Rattle.field.specs.Symbols.{Symbols}
use Rattle.code.specs.declared.Setting.{Setting}
use Rattle.code.specs.Generator.{row_symbol}
use Rattle.code.specs.parts.Residual.{plus}
use Rattle.code.specs.Settings.{code_of}

-- a + v × (symbol i of row r of G_j), for a received byte a
abbrev pub plus_row : Setting → ℕ → ℕ → ℕ → ℕ → ℕ → ℕ
plus_row p r v j i a = plus p.q a ((ops_of p.q).mul v (row_symbol (code_of p) j r i))

-- v × a row was added to the known symbols among `from` .. `to - 1` of an area.
pub record MultipleAdded (q v from to : ℕ) (row before after : List ℕ) : Type 0 where
  pub long : length after ≡ length before
  pub symbols : Symbols q before → Symbols q after
  pub inside : (i : ℕ) → from ≤ i → i < to → get_or after i 0 ≡ plus q (get_or before i 0) ((ops_of q).mul v (get_or row i 0))
  pub outside : (i : ℕ) → (from ≤ i → to ≤ i) → get_or after i 0 ≡ get_or before i 0

-- v × row r of G_0, .., G_m was added to the known symbols of a window.
pub record RowsAdded (p : Setting) (r v : ℕ) (before after : List ℕ) : Type 0 where
  pub long : length after ≡ length before
  pub symbols : Symbols p.q before → Symbols p.q after
  pub inside : (s i : ℕ) → s < p.m + 1 → i < p.n → view p.n after s i ≡ plus_row p r v s i (view p.n before s i)
