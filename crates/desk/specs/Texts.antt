-- The lines of a text and their answers (01, "Lines at the planning desk"). A text may come in parts.
-- Holds: `newline`, `is_newline`; `lines_of`, `rest_of`, `last_of`, `all_lines`; `Output`.
use Rattle.std.specs.Prelude.{Bool, List, [], ◌∷◌, ◌++◌, ℕ, eqb}
use Rattle.algebra.specs.Ops.{pick}
use Rattle.line.specs.Answering.{Answers}

abbrev pub newline : ℕ
newline = 10

abbrev pub is_newline : ℕ → Bool
is_newline c = eqb c newline

-- The lines that a text ends, where `begun` of a line came before it ..
unfoldable pub lines_of : List ℕ → List ℕ → List (List ℕ)
lines_of begun [] = []
lines_of begun (c ∷ text) = pick (eqb c newline) (begun ∷ lines_of [] text) (lines_of (begun ++ c ∷ []) text)

-- .. and the line that it begins and does not end.
unfoldable pub rest_of : List ℕ → List ℕ → List ℕ
rest_of begun [] = begun
rest_of begun (c ∷ text) = pick (eqb c newline) (rest_of [] text) (rest_of (begun ++ c ∷ []) text)

-- At the end of the input such a line counts, unless it is empty.
unfoldable pub last_of : List ℕ → List (List ℕ)
last_of [] = []
last_of (c ∷ line) = (c ∷ line) ∷ []

-- The lines of a whole input.
abbrev pub all_lines : List ℕ → List (List ℕ)
all_lines input = lines_of [] input ++ last_of (rest_of [] input)

-- One output line for each line, in their order, each with a newline.
pub data Output : List (List ℕ) → List ℕ → Type 0 where
  none : Output [] []
  next : (line text : List ℕ) (lines : List (List ℕ)) (rest : List ℕ) → Answers line text → Output lines rest → Output (line ∷ lines) (text ++ newline ∷ rest)
