-- `frame::Frame::guess_rest`: blocks are guessed one after the other.
use Rattle.frame.specs.parts.Frame.{Revised}
use Rattle.frame.proofs.Frame.guess_rest.Given as goal

abbrev pub invariant-loop-a : goal.invariant-loop-a
invariant-loop-a l = Revised l.self.tables.now.setting l.self.blocks l.self.unknown l.j l.initial.message l.initial.residual l.message l.residual
