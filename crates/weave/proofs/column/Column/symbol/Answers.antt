-- `Column::symbol`: the symbol of row i.
use mathlib.Core.Path.{sym}
use native.Mathlib.Omega.{arith}
use Rattle.weave.proofs.Weaving.{column_length, column_size, column_symbol}
use Rattle.weave.proofs.column.Column.symbol.Goals as goal

pub returns : goal.returns
returns c =
    let k = c.args.self.now in
    let size = column_size k.long k.columns k.c k.rows.now k.whole k.within in
    sym (column_symbol k.columns k.c k.rows.now c.args.i (omega (arith, c.requires, size, column_length k.columns k.c k.rows.now)))
