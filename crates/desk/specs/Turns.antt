-- One turn of the desk: a read, what is kept of a line from turn to turn, and what is written (01, "Lines at the planning desk").
-- Holds: `KeptLine`, `kept_line`, `Kept`; `output_room`; `EndAnswered`, `TextAnswered`, `Turned` (what `lines::Desk::turn` promises); `Run` (turns to the end
-- of an input), `RunAnswers`.
use Rattle.std.specs.Prelude.{◌≡◌, List, [], ◌∷◌, ◌++◌, ℕ, ◌+◌, ◌*◌, Option, Some, None, take}
use Rattle.desk.specs.Texts.{lines_of, rest_of, last_of, all_lines, Output}

-- What is kept of a line, and for how many characters of one there is room.
pub record KeptLine : Type 0 where
  pub room : ℕ
  pub characters : List ℕ

abbrev pub kept_line : ℕ → List ℕ → KeptLine
kept_line room characters = record { room = room; characters = characters }

-- Of a line that is begun the first characters are kept, all or as many as there is room for.
abbrev pub Kept : List ℕ → KeptLine → Type 0
Kept begun line = line.characters ≡ take line.room begun

-- As many characters as the answers of a turn and their newlines take at most, where so many characters of a line are kept and a text of so many comes, or the
-- input ends. An answer is at most six characters longer than its line (`answers_room`, line/proofs/Frames): a character that is kept costs one, and one that
-- comes seven, since it may end a line. The end of the input may end one too.
abbrev pub output_room : ℕ → ℕ → ℕ
output_room kept text = kept + 7 * (text + 1)

-- The input has ended: the line that is begun is answered, unless it is empty, whatever line that was.
abbrev pub EndAnswered : KeptLine → List ℕ → Type 0
EndAnswered line written = (begun : List ℕ) → Kept begun line → Output (last_of begun) written

-- A text came: the lines that it ends are answered, and the line that it does not end is kept, whatever line was begun before it.
abbrev pub TextAnswered : List ℕ → KeptLine → KeptLine → List ℕ → Type 0
TextAnswered text line line' written = (begun : List ℕ) → Kept begun line → Output (lines_of begun text) written × Kept (rest_of begun text) line'

-- A turn, on what a read gave, writes `written`, and leaves `line'` where `line` was kept.
pub data Turned (read : Option (List ℕ)) (line line' : KeptLine) (written : List ℕ) : Type 0 where
  -- The read failed: nothing is answered, and what is kept stays.
  failed : read ≡ None → written ≡ [] → line' ≡ line → Turned read line line' written
  -- The input has ended.
  ended : read ≡ Some [] → EndAnswered line written → Turned read line line' written
  -- A text came.
  came : (c : ℕ) (text : List ℕ) → read ≡ Some (c ∷ text) → TextAnswered (c ∷ text) line line' written → Turned read line line' written

-- Turns one after another, each with the line that the one before left: the texts that came, to the end of the input, and all that was written.
pub data Run : KeptLine → List ℕ → List ℕ → Type 0 where
  -- A read failed, and another turn follows.
  again : {line line' : KeptLine} {text written rest : List ℕ} → Turned None line line' written → Run line' text rest → Run line text (written ++ rest)
  -- A text came, and another turn follows.
  more : {line line' : KeptLine} {text written rest : List ℕ} (c : ℕ) (input : List ℕ) → Turned (Some (c ∷ input)) line line' written → Run line' text rest
      → Run line (c ∷ input ++ text) (written ++ rest)
  -- The input has ended.
  last : {line line' : KeptLine} {written : List ℕ} → Turned (Some []) line line' written → Run line [] written

-- The answers to the lines of a whole input, in reads of any length (`run_answers`, proofs/Turns).
abbrev pub RunAnswers : Type 0
RunAnswers = (line : KeptLine) (text written : List ℕ) → Kept [] line → Run line text written → Output (all_lines text) written
