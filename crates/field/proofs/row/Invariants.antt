-- `row`: the first a places hold what the closure gives.
use Prim.Native.Nat.{ℕ, ◌<◌}
use Rattle.field.specs.parts.Sequences.{at}
use Rattle.field.proofs.row.Given as goal

abbrev pub invariant-loop-a : goal.invariant-loop-a
invariant-loop-a g l = (i : ℕ) → i < l.a → goal.F-post g l.of i (at l.symbol-items i)
