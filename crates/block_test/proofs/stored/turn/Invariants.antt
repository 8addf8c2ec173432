-- `block_test::stored::turn`. The loop's invariant: the block keeps its length.
use mathlib.Core.Path.{◌≡◌}
use lib.ListN.{length}
use Rattle.block_test.proofs.stored.turn.Given as goal

abbrev pub invariant-loop-symbol : goal.invariant-loop-symbol
invariant-loop-symbol l = length l.block ≡ l.p.n
