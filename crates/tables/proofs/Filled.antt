-- A generator's rows, laid out one after the other.
-- Holds: `Filled`, `filled_long`, `filled_more`, `laid_out` (the filled rows are the table's); `row_list` (a row of the nested table), `rows_of` (a
-- generator laid out is the setting's rows).
use mathlib.Core.Path.{◌≡◌, sym, ap, ap₂, subst, ◌∙◌}
use mathlib.Core.List.{List, []}
use Prim.Native.Nat.{ℕ, ◌+◌, ◌*◌, ◌/◌, ◌%◌, ◌≤◌, ◌<◌}
use native.Mathlib.Omega.{arith}
use native.Mathlib.Decide.{dec_lt}
use lib.Arith.{digits_div, digits_mod, digits_lt}
use lib.ListN.{length, get_or}
use borrow.Rule.Slice.PartMut.{put_mid}
use Rattle.area.specs.Lists.{tabulate}
use Rattle.area.proofs.Lists.{get_d_tabulate}
use Rattle.area.proofs.Parts.{put_length, put_before, put_inside}
use Rattle.code.specs.declared.Setting.{Setting}
use Rattle.code.specs.Generator.{row_symbol}
use Rattle.code.specs.Settings.{code_of}
use Rattle.tables.specs.parts.Rows.{generator_of, rows_length, LaidOut, RowsOf}

-- Row a of all in the order in which they are laid out.
abbrev pub row_in_turn : ℕ → List (List (List ℕ)) → ℕ → List ℕ
row_in_turn powers table a = get_or (get_or table (a % powers) []) (a / powers) []

module _ (n powers : ℕ) (table : List (List (List ℕ))) where
  -- The first a rows stand in their places.
  pub record Filled (a : ℕ) (rows : List ℕ) : Type 0 where
    pub at : (b i : ℕ) → b < a → i < n → get_or rows (b * n + i) 0 ≡ get_or (row_in_turn powers table b) i 0

  -- One row more, copied to the `size` places from a × n on.
  module _ (a size : ℕ) (rows row : List ℕ) (f : Filled a rows) (is : row ≡ row_in_turn powers table a) (long : length row ≡ n) (whole : size ≡ length row)
      (room : a * n + size ≤ length rows) where
    pub filled_long : length (put_mid (a * n) size rows row) ≡ length rows
    filled_long = put_length (a * n) size rows row room (sym whole)

    pub filled_more : Filled (a + 1) (put_mid (a * n) size rows row)
    filled_more = record { at = λ b i l h. at b i l h (dec_lt b a) }
      where
        at : (b i : ℕ) → b < a + 1 → i < n → Dec (b < a) → get_or (put_mid (a * n) size rows row) (b * n + i) 0 ≡ get_or (row_in_turn powers table b) i 0
        at b i l h (yes g) = put_before (a * n) size rows row room (sym whole) (b * n + i) (digits_lt g h) ∙ f.at b i g h
        at b i l h (no g) =
            let last : b ≡ a = omega arith in
            rw last (put_inside (a * n) size rows row room (sym whole) i (subst (λ (t : ℕ). i < t) (sym (whole ∙ long)) h)
            ∙ ap (λ (t : List ℕ). get_or t i 0) is)

  -- The filled rows are the table's.
  pub laid_out : (k : ℕ) (rows : List ℕ) → Filled (k * powers) rows → LaidOut n k powers table rows
  laid_out k rows f =
      record {
        at = λ j r i lj lr li.
            f.at (r * powers + j) i (digits_lt lr lj) li
            ∙ ap₂ (λ (b a : ℕ). get_or (get_or (get_or table b []) a []) i 0) (digits_mod r lj) (digits_div r lj);
      }

module _ (p : Setting) where
  -- Row r of G_j has the generator's n symbols.
  row_list : (j r : ℕ) → j < p.m + 1 → r < p.k → get_or (get_or (generator_of p) j []) r [] ≡ tabulate p.n (row_symbol (code_of p) j r)
  unfolding generator_of
  row_list j r lj lr =
      ap (λ (t : List (List ℕ)). get_or t r []) (get_d_tabulate (p.m + 1) (λ b. tabulate p.k (λ a. tabulate p.n (row_symbol (code_of p) b a))) j [] lj)
      ∙ get_d_tabulate p.k (λ a. tabulate p.n (row_symbol (code_of p) j a)) r [] lr

  -- A setting's generator laid out is its rows.
  pub rows_of : (table : List (List (List ℕ))) → table ≡ generator_of p → (rows : List ℕ) → rows_length p ≤ length rows → LaidOut p.n p.k (p.m + 1) table rows
      → RowsOf p rows
  rows_of table e rows room L =
      record {
        room = room;
        at = λ j r i lj lr li.
            L.at j r i lj lr li
            ∙ ap (λ (t : List (List (List ℕ))). get_or (get_or (get_or t j []) r []) i 0) e
            ∙ ap (λ (t : List ℕ). get_or t i 0) (row_list j r lj lr)
            ∙ get_d_tabulate p.n (row_symbol (code_of p) j r) i 0 li;
      }
