-- `block::unknown::count`: no symbol before the index is unknown.
use mathlib.Core.Bool.{Bool}
use mathlib.Core.Path.{ap, ◌∙◌}
use Prim.Native.Nat.{ℕ}
use Rattle.algebra.specs.Ops.{pick}
use Rattle.algebra.proofs.Weights.{total_none, total_same}
use Rattle.field.specs.Symbols.{is_unknown}
use Rattle.field.specs.parts.Sequences.{at}
use Rattle.code.proofs.Cost.{known_byte}
use Rattle.block.proofs.unknown.count.Goals as goal

pub loop-received-init : goal.loop-received-init
loop-received-init c = total_none _

pub loop-received-preserved : goal.loop-received-preserved
loop-received-preserved c =
    let l = c.loop-received in
    let a = c.args in
    l.invariant
    ∙ total_same (λ i. pick (is_unknown a.q (at a.block.now i)) 1 0) l.received-index
    (ap {B = ℕ} (λ (b : Bool). pick b 1 0) (known_byte (rw c.from.ensures at c.if-q-from.false)))
