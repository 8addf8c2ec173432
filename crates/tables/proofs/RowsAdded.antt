-- Multiples of the generator's rows, added to a window: row r of G_0, .., G_m is a part of the rows, as long as a window.
-- Holds: `window_row_room`, `window_row_symbols`, `rows_added`.
use mathlib.Core.Path.{◌≡◌, sym, ap, subst, ◌∙◌}
use mathlib.Core.List.{List}
use Prim.Native.Nat.{ℕ, ◌+◌, ◌*◌, ◌/◌, ◌%◌, ◌≤◌, ◌<◌}
use native.Mathlib.Nat.{mul-le-mul_right}
use native.Mathlib.Omega.{arith}
use lib.ListN.{length, get_or}
use lib.Arith.{digits_lt}
use Rattle.area.specs.Lists.{part_at}
use Rattle.area.proofs.Lists.{place_in_blocks}
use Rattle.area.proofs.Parts.{length_part_at, part_at_symbol}
use Rattle.field.specs.Fields.{ops_of}
use Rattle.field.specs.Symbols.{Symbols}
use Rattle.code.specs.declared.Setting.{Setting}
use Rattle.code.specs.Generator.{row_symbol}
use Rattle.code.specs.Settings.{code_of}
use Rattle.code.specs.Windows.{window_length}
use Rattle.code.specs.parts.Residual.{plus}
use Rattle.code.specs.parts.Sound.{Sound}
use Rattle.code.proofs.CodeBelow.{row_symbol_below}
use Rattle.code.proofs.Settings.{block_positive}
use Rattle.tables.specs.parts.Rows.{RowsOf}
use Rattle.tables.specs.parts.RowsAdded.{MultipleAdded, RowsAdded}

-- Row r of G_0, .., G_m is a part of the lent rows.
module _ (p : Setting) (S : Sound p) (rows : List ℕ) (R : RowsOf p rows) (r : ℕ) (lr : r < p.k) where
  abbrev row : List ℕ
  row = part_at (window_length p) r rows

  pub window_row_room : r * window_length p + window_length p ≤ length rows
  window_row_room =
      let next : r + 1 ≤ p.k = omega arith in
      omega (arith, mul-le-mul_right (window_length p) next, R.room)

  row_symbol_lem : (s i : ℕ) → s < p.m + 1 → i < p.n → get_or row (s * p.n + i) 0 ≡ row_symbol (code_of p) s r i
  row_symbol_lem s i l h =
      let place : r * window_length p + (s * p.n + i) ≡ (r * (p.m + 1) + s) * p.n + i = omega arith in
      part_at_symbol (window_length p) r rows (s * p.n + i) (digits_lt l h) ∙ ap (λ (t : ℕ). get_or rows t 0) place ∙ R.at s r i l lr h

  pub window_row_symbols : Symbols p.q row
  window_row_symbols =
      record {
        below = λ a l.
            let inside : a < window_length p = omega (arith, length_part_at (window_length p) r rows window_row_room) in
            let place = place_in_blocks (p.m + 1) a p.n (block_positive p S) inside in
            subst (λ (t : ℕ). get_or row t 0 < p.q) place.2
            (subst (λ (t : ℕ). t < p.q) (sym (row_symbol_lem (a / p.n) (a % p.n) place.0 place.1)) (row_symbol_below p S (a / p.n) r (a % p.n)));
      }

  pub rows_added : {q u v : ℕ} {part before after : List ℕ} → q ≡ p.q → u ≡ v → part ≡ row → length before ≡ window_length p
      → MultipleAdded q u 0 (length before) part before after → RowsAdded p r v before after
  rows_added {v = v} {before = before} {after = after} field factor whole long added =
      let M : MultipleAdded p.q v 0 (length before) row before after = rw (field, factor, whole) at added in
      record {
        long = M.long;
        symbols = M.symbols;
        inside = λ s i l h.
            M.inside (s * p.n + i) (omega arith) (subst (λ (t : ℕ). s * p.n + i < t) (sym long) (digits_lt l h))
            ∙ ap (λ (t : ℕ). plus p.q (get_or before (s * p.n + i) 0) ((ops_of p.q).mul v t)) (row_symbol_lem s i l h);
      }
