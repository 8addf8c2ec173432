-- Characters and digits (01, "Lines at the planning desk": "every digit again lowercase hexadecimal"; 02, #106).
-- Holds: `digit_of`, what a character stands for; `character_of`, the character of a value; `hex`, a number in a fixed count of digits; `number_from`,
-- `number_in`, the number that digits say; `NumberRead`.
use Rattle.std.specs.Prelude.{◌≡◌, ◌&&◌, List, [], ◌∷◌, ◌++◌, ℕ, zero, suc, ◌+◌, ◌-◌, ◌*◌, ◌/◌, ◌%◌, ◌^◌, ◌<◌, eqb, leb, ltb}
use Rattle.algebra.specs.Ops.{pick}
use Rattle.field.specs.Symbols.{unknown_mark}

-- 0-9 and a-f, by their bytes 48 to 57 and 97 to 102, have the values 0 to 15. `-`, by its byte 45, "means an unknown symbol" (02, #106). Any other character
-- has 16.
unfoldable pub digit_of : ℕ → ℕ
digit_of c = pick (leb 48 c && leb c 57) (c - 48) (pick (leb 97 c && leb c 102) (c - 87) (pick (eqb c 45) unknown_mark 16))

-- The character of a value below 16.
unfoldable pub character_of : ℕ → ℕ
character_of d = pick (ltb d 10) (48 + d) (87 + d)

-- A number's lowest `count` digits, the highest first.
unfoldable pub hex : ℕ → ℕ → List ℕ
hex zero number = []
hex (suc count) number = hex count (number / 16) ++ character_of (number % 16) ∷ []

-- The number that digits say, the highest first; `high` is what the digits before them say.
unfoldable pub number_from : ℕ → List ℕ → ℕ
number_from high [] = high
number_from high (c ∷ digits) = number_from (high * 16 + digit_of c) digits

abbrev pub number_in : List ℕ → ℕ
number_in digits = number_from 0 digits

-- A number for which there are digits enough is read as it was written (`number_read`, proofs/Hex).
abbrev pub NumberRead : Type 0
NumberRead = (count number : ℕ) → number < 16 ^ count → number_in (hex count number) ≡ number
