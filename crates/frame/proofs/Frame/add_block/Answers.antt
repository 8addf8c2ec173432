-- `frame::Frame::add_block`: the symbols before r were added.
use mathlib.Core.Path.{refl}
use Prim.Native.Nat.{◌<◌}
use native.Mathlib.Omega.{arith}
use Rattle.frame.proofs.Guesses.{adding_zero, adding_more, adding_all}
use Rattle.frame.proofs.Frame.add_block.Goals as goal

pub loop-r-preserved-then-v-eq0 : goal.loop-r-preserved-then-v-eq0
loop-r-preserved-then-v-eq0 c = adding_zero c.args.self.now.tables.now.ready.sound c.requires.2 c.loop-r.invariant c.if-v-eq0.true

pub loop-r-preserved : goal.loop-r-preserved
loop-r-preserved c =
    let some : c.args.i < c.args.self.now.blocks = omega (arith, c.if-self-i.false) in
    adding_more some (omega arith) c.loop-r.invariant c.adjust.ensures refl

pub returns : goal.returns
returns c = adding_all c.loop-r.invariant (omega arith)
