-- `link::decode::restore`: the first i places are restored.
use mathlib.Core.Path.{sym, subst}
use Prim.Native.Nat.{ℕ, ◌≤◌, ◌<◌}
use native.Mathlib.Omega.{arith}
use Rattle.weave.specs.parts.Columns.{symbols_of}
use Rattle.weave.proofs.Weaving.{column_size}
use Rattle.link.proofs.Decoding.{restored_more}
use Rattle.link.proofs.decode.restore.Goals as goal

pub subtract-requires : goal.subtract-requires
subtract-requires c =
    let q = c.args.field.now.q in
    let k = c.args.reception.now in
    let l = c.loop-i in
    let least : l.i ≤ l.i = omega arith in
    let size = column_size k.long k.columns k.c k.rows.now k.whole k.within in (
      subst (λ (t : ℕ). t < q) (sym c.symbol.ensures) (c.requires.1.below l.i (omega (arith, size, c.requires.0, l.invariant.long))),
      subst (λ (t : ℕ). t < q) (sym (l.invariant.outside l.i least)) (c.requires.2.below l.i (omega (arith, l.invariant.long))),
    )

pub loop-i-preserved : goal.loop-i-preserved
loop-i-preserved c =
    let a = c.args in
    let k = a.reception.now in
    let l = c.loop-i in
    restored_more a.field.now.q (symbols_of k) a.residual.now l.i l.residual c.subtract.result l.invariant
    (omega (arith, l.invariant.long))
    (rw (← c.symbol.ensures) c.subtract.ensures.same)
