-- `Column::take`: the first i symbols are those of the column.
use mathlib.Core.Path.{sym, ◌∙◌}
use native.Mathlib.Omega.{arith}
use lib.Seq.{ext_get_or}
use Rattle.weave.specs.parts.Columns.{symbols_of}
use Rattle.weave.proofs.Weaving.{column_size}
use Rattle.weave.proofs.column.Column.take.Goals as goal

pub returns : goal.returns
returns c =
    let k = c.args.self.now in
    let l = c.loop-i in
    ext_get_or 0 l.out (symbols_of k)
    (l.auto.out ∙ c.requires ∙ sym (column_size k.long k.columns k.c k.rows.now k.whole k.within))
    (λ i h. l.invariant i (omega arith))
