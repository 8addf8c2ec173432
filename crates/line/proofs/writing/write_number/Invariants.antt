-- `line::writing::write_number`: the digits from place i on are written, and `left` is what the others hold.
use mathlib.Core.Path.{◌≡◌}
use mathlib.Core.List.{◌++◌}
use Prim.Native.Nat.{◌≤◌}
use lib.ListN.{length, drop}
use Rattle.line.specs.Characters.{hex}
use Rattle.line.proofs.writing.write_number.Given as goal

abbrev pub invariant-loop-i : goal.invariant-loop-i
invariant-loop-i l =
    (l.i ≤ length l.area) × (length l.area ≡ length l.initial.area)
    × (hex (length l.initial.area) l.number ≡ hex l.i l.left ++ drop l.i l.area)

abbrev pub decreases-loop-i : goal.decreases-loop-i
decreases-loop-i l = l.i
