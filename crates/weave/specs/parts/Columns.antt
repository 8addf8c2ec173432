-- One column of rows of symbols. Holds: `column_of`, `symbols_of`.
use Rattle.std.specs.Prelude.{List, ℕ, ◌+◌, ◌*◌, ◌/◌, length, get_or}
use Rattle.area.specs.Lists.{tabulate}
use Rattle.weave.specs.declared.column.Column.{Column}

-- Symbol c of each row of `columns` symbols. Of a woven area, whose rows hold a symbol of each of D frames: frame c.
abbrev pub column_of : ℕ → ℕ → List ℕ → List ℕ
column_of columns c l = tabulate (length l / columns) (λ i. get_or l (i * columns + c) 0)

-- The same of a column as the code has it.
abbrev pub symbols_of : Column → List ℕ
symbols_of column = column_of column.columns column.c column.rows.now
