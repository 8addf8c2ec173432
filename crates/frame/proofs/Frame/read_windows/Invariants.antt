-- `frame::Frame::read_windows`: the windows before j were read.
use Rattle.frame.specs.parts.Frame.{Settled}
use Rattle.frame.proofs.Frame.read_windows.Given as goal

abbrev pub invariant-loop-j : goal.invariant-loop-j
invariant-loop-j l = Settled l.self.tables.now.setting l.self.blocks l.self.unknown l.initial.residual l.j l.message l.residual
