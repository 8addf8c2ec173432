-- `block_test::Received::is_near` is safe: each symbol costs two at most.
use Prim.Native.Nat.{◌≤◌, ◌*◌}
use Rattle.block_test.proofs.Received.is_near.Given as goal

abbrev pub invariant-loop-i : goal.invariant-loop-i
invariant-loop-i l = l.cost ≤ 2 * l.i
