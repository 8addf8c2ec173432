-- `line::characters::read_number`: the digits from place i on are left to read. A character's value is at most 255, so with 17 the number is at most 17 × 16^i.
use mathlib.Core.Path.{◌≡◌}
use Prim.Native.Nat.{◌+◌, ◌*◌, ◌^◌, ◌≤◌}
use lib.ListN.{drop}
use Rattle.line.specs.Characters.{number_from, number_in}
use Rattle.line.proofs.characters.read_number.Given as goal

abbrev pub invariant-loop-character : goal.invariant-loop-character
invariant-loop-character l =
    (number_from l.number (drop l.character-index l.digits) ≡ number_in l.digits) × (l.number + 17 ≤ 17 * 16 ^ l.character-index)
