-- `weave::transpose`: the first c columns stand one after another.
use mathlib.Core.Path.{◌≡◌, ap, ◌∙◌}
use Prim.Native.Nat.{◌+◌, ◌*◌, ◌≤◌}
use native.Mathlib.Omega.{arith}
use lib.ListN.{length}
use Rattle.area.proofs.Parts.{parts_more}
use Rattle.weave.specs.parts.Columns.{column_of}
use Rattle.weave.proofs.Weaving.{column_size, column_room, transposed_of_columns}
use Rattle.weave.proofs.transpose.Goals as goal

pub loop-c-preserved : goal.loop-c-preserved
loop-c-preserved c =
    let a = c.args in
    let l = c.loop-c in
    let long : length l.out ≡ a.rows * a.columns = l.invariant.long ∙ c.requires.1 in
    let room : l.c * a.rows + a.rows ≤ length l.out = column_room _ _ l.out long _ c.loop-c-test.true in
    let laid = c.take in
    let same : laid.new.out ≡ column_of a.columns l.c a.incoming.now = laid.ensures in
    parts_more a.rows (λ g. column_of a.columns g a.incoming.now) a.out.now l.c l.out laid.new.out
    (omega (arith, room, l.invariant.long))
    (ap length same ∙ column_size _ _ l.c a.incoming.now c.requires.0 c.loop-c-test.true) same l.invariant

pub returns : goal.returns
returns c =
    let placed = c.loop-c.invariant in
    transposed_of_columns _ _ c.loop-c.out (placed.long ∙ c.requires.1) c.args.incoming.now c.requires.0
    (λ g h. placed.parts g (omega arith))
