-- What contracts say of symbols: "A symbol is one byte below q" (01, "Two fields and three settings"), and of unknown ones (02, #106).
-- Holds: `Symbols` (a list of symbols); `unknown_mark`, `is_unknown`, `known_symbol`.
use Rattle.std.specs.Prelude.{Bool, List, ℕ, ◌<◌, leb, length, get_or}
use Rattle.algebra.specs.Ops.{pick}

-- Every element of the list is below q.
pub record Symbols (q : ℕ) (l : List ℕ) : Type 0 where
  pub below : (i : ℕ) → i < length l → get_or l i 0 < q

-- "Byte 255 in a reception .. means an unknown symbol" (02, #106).
abbrev pub unknown_mark : ℕ
unknown_mark = 255

-- Whether a received byte stands for an unknown symbol: it is no symbol of the field. Of such bytes question 4 admits the mark alone (`UnknownIsMark`, crate
-- `question`), so of what a call decodes this says what 02 says. Theorems about any bytes take every byte that is no symbol for an unknown one: it then costs
-- less than a known symbol that differs, so they say no less.
abbrev pub is_unknown : ℕ → ℕ → Bool
is_unknown q v = leb q v

-- A received byte as a symbol: 0 for an unknown one.
abbrev pub known_symbol : ℕ → ℕ → ℕ
known_symbol q v = pick (is_unknown q v) 0 v
