-- `frame::Frame::add_block`: the symbols before r were added.
use lib.ListN.{get_or}
use Rattle.frame.proofs.Guesses.{Adding}
use Rattle.frame.proofs.Frame.add_block.Given as goal

abbrev pub invariant-loop-r : goal.invariant-loop-r
invariant-loop-r l = Adding l.self.tables.now.setting l.self.blocks l.self.unknown l.i (λ r. get_or l.block r 0) l.r l.initial.message l.initial.residual l.message l.residual
