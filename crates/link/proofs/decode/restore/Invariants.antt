-- `link::decode::restore`: the first i places are restored.
use Rattle.weave.specs.parts.Columns.{symbols_of}
use Rattle.link.specs.parts.Restoring.{Restored}
use Rattle.link.proofs.decode.restore.Given as goal

abbrev pub invariant-loop-i : goal.invariant-loop-i
invariant-loop-i l = Restored l.field.q l.i (symbols_of l.reception) l.initial.residual l.residual
