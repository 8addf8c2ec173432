-- `block::unknown::fill`: the symbols before place i stand in the area, and the rest of it is 0.
use mathlib.Core.Path.{◌≡◌}
use Prim.Native.Nat.{ℕ, ◌<◌}
use lib.ListN.{length}
use Rattle.field.specs.Symbols.{known_symbol}
use Rattle.field.specs.parts.Sequences.{AllBelow, at}
use Rattle.block.specs.declared.TheConstants.{PLACES}
use Rattle.block.proofs.unknown.fill.Given as goal

abbrev pub invariant-loop-i : goal.invariant-loop-i
invariant-loop-i l =
    let q = l.initial.field.q in
    AllBelow q l.symbols × ((a : ℕ) → a < l.i → at l.symbols a ≡ known_symbol q (at l.block a)) × (length l.symbols ≡ PLACES)
