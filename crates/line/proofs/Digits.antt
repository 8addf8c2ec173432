-- Digits: a value is read as it was written, and a digit written as it was read. Holds: `digit_back`, `character_back`.
use mathlib.Core.Path.{◌≡◌}
use Prim.Native.Nat.{ℕ, ◌<◌}
use native.Mathlib.Omega.{arith}
use Rattle.std.proofs.lemmas.Bool.Decides.{nat_tests}
use Rattle.line.specs.Characters.{digit_of, character_of}

-- A value below 16 is read as it was written ..
pub digit_back : (d : ℕ) → d < 16 → digit_of (character_of d) ≡ d
unfolding digit_of character_of
digit_back d h = grind (arith, nat_tests)

-- .. and a digit is written as it was read.
pub character_back : (c : ℕ) → digit_of c < 16 → character_of (digit_of c) ≡ c
unfolding digit_of character_of
character_back c h = grind (arith, nat_tests)
