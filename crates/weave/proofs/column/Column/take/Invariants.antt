-- `Column::take`: the first i symbols are those of the column.
use mathlib.Core.Path.{◌≡◌}
use Prim.Native.Nat.{ℕ, ◌<◌}
use lib.ListN.{get_or}
use Rattle.weave.specs.parts.Columns.{symbols_of}
use Rattle.weave.proofs.column.Column.take.Given as goal

abbrev pub invariant-loop-i : goal.invariant-loop-i
invariant-loop-i l = (a : ℕ) → a < l.i → get_or l.out a 0 ≡ get_or (symbols_of l.self) a 0
