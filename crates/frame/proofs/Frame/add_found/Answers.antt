-- `frame::Frame::add_found`: block j is added, and then blocks after it are changed.
use Prim.Native.Nat.{◌*◌}
use native.Mathlib.Omega.{arith}
use lib.ListN.{drop}
use lib.Seq.{get_or-take}
use Rattle.field.proofs.Symbols.{symbols_take, symbols_drop}
use Rattle.frame.proofs.Guesses.{revised_then, added_same, added_then}
use Rattle.frame.proofs.Frame.add_found.Goals as goal

pub add_block-requires-in-loop-a : goal.add_block-requires-in-loop-a
add_block-requires-in-loop-a c =
    let q = c.args.self.now.tables.now.setting.q in
    let k = c.args.self.now.tables.now.setting.k in
    let found = c.args.found.now.information in
    (rw c.part-block.ensures.part (symbols_take q k (drop (c.loop-a.a * k) found) (symbols_drop q (c.loop-a.a * k) found c.requires.0)), c.part-block.ensures.long, c.loop-a.invariant.areas)

pub loop-a-preserved : goal.loop-a-preserved
loop-a-preserved c = revised_then c.loop-a.invariant c.add_block-in-loop-a.ensures.revised (omega arith)

pub returns : goal.returns
returns c =
    let k = c.args.self.now.tables.now.setting.k in
    added_then (added_same c.add_block.ensures (λ r u. get_or-take k c.args.found.now.information r 0 u)) c.loop-a.invariant (omega arith)
