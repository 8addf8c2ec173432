-- `frame::Frame::guess_window`: blocks are guessed one after the other.
use Rattle.frame.specs.parts.Frame.{Revised}
use Rattle.frame.proofs.Frame.guess_window.Given as goal

abbrev pub invariant-loop-s : goal.invariant-loop-s
invariant-loop-s l = Revised l.self.tables.now.setting l.self.blocks l.self.unknown l.j l.initial.message l.initial.residual l.message l.residual
