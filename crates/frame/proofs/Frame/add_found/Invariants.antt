-- `frame::Frame::add_found`: block j is added, and then blocks after it are changed.
use Prim.Native.Nat.{◌+◌}
use Rattle.frame.specs.parts.Frame.{Revised}
use Rattle.frame.proofs.Frame.add_found.Given as goal

abbrev pub invariant-loop-a : goal.invariant-loop-a
invariant-loop-a l = Revised l.self.tables.now.setting l.self.blocks l.self.unknown (l.j + 1) l.initial.message l.initial.residual l.message l.residual
