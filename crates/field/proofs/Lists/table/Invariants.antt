-- `Lists::table` meets its contract. The loop's invariant: the first a rows hold their multiples.
use mathlib.Core.List.{[]}
use Prim.Native.Nat.{ℕ, ◌<◌}
use lib.ListN.{get_or}
use Rattle.field.specs.parts.Products.{MultiplesOf}
use Rattle.field.proofs.Lists.table.Given as goal

abbrev pub invariant-loop-a : goal.invariant-loop-a
invariant-loop-a l = (i : ℕ) → i < l.a-counter → MultiplesOf l.self.q i (get_or l.multiples-items i [])
