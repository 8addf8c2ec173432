-- `block_test::Level::tally` is safe and ends: no more blocks were gone through than there are numbers before the next.
use Prim.Native.Nat.{◌≤◌, ◌-◌}
use Rattle.block_test.proofs.Level.tally.Given as goal

abbrev pub invariant-loop-number : goal.invariant-loop-number
invariant-loop-number l = (l.all.blocks ≤ l.number) × (l.all.near ≤ l.all.blocks) × (l.all.agree ≤ l.all.blocks)

abbrev pub decreases-loop-number : goal.decreases-loop-number
decreases-loop-number l = l.end - l.number
