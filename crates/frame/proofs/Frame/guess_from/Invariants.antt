-- `frame::Frame::guess_from`: whatever is guessed, the residual stays that of the guess.
use Rattle.frame.specs.parts.Frame.{Revised}
use Rattle.frame.proofs.Frame.guess_from.Given as goal

abbrev pub invariant-loop-turn : goal.invariant-loop-turn
invariant-loop-turn l = Revised l.self.tables.now.setting l.self.blocks l.self.unknown l.i l.initial.message l.initial.residual l.message l.residual
