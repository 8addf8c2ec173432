-- 01's sample lines ("The desk program's input"): the refused ones computed, and four more (a line one character too long, a wrong character, a short line,
-- a setting that there is not), and 02's with a long head (#107); the two that hold a frame stated, and 02's with unknown symbols (#106) and a long head.
-- Holds: `sample_symbol` to `sample_short`; `Gets`, `SampleRead`, `SampleNone`, `SampleUnknown`, `SampleLongRead`.
use Rattle.std.specs.Prelude.{◌≡◌, refl, List, [], ◌∷◌, ◌++◌, map, ℕ, ◌+◌, replicate}
use Rattle.question.specs.Questions.{first_no, passing_to}
use Rattle.line.specs.Characters.{digit_of, character_of, hex, number_from}
use Rattle.line.specs.Questions.{most_characters, line_questions}
use Rattle.line.specs.Answering.{refusal, Answers}

-- The first "no" of a line of these digits is answered by a line of those.
abbrev Refused : List ℕ → List ℕ → Type 0
Refused line text = refusal (first_no (line_questions (map character_of line))) ≡ map character_of text

pub sample_symbol : Refused (1 ∷ 0 ∷ 0 ∷ 1 ∷ 2 ∷ 4 ∷ 3 ∷ 5 ∷ 2 ∷ 3 ∷ 2 ∷ 3 ∷ 0 ∷ 0 ∷ 0 ∷ 0 ∷ []) (0 ∷ 4 ∷ 0 ∷ 0 ∷ 0 ∷ 3 ∷ [])
unfolding digit_of character_of hex number_from passing_to
sample_symbol = refl

pub sample_empty : Refused [] (0 ∷ 9 ∷ 0 ∷ 0 ∷ 0 ∷ 0 ∷ [])
unfolding digit_of character_of hex number_from passing_to
sample_empty = refl

-- "a line beginning with 4 or 5 no longer gets 1; `4001` gets `0a0000`" (02, #101)
pub sample_setting : Refused (4 ∷ 0 ∷ 0 ∷ 1 ∷ []) (0 ∷ 10 ∷ 0 ∷ 0 ∷ 0 ∷ 0 ∷ [])
unfolding digit_of character_of hex number_from passing_to
sample_setting = refl

pub sample_no_setting : Refused (6 ∷ 0 ∷ 0 ∷ 1 ∷ []) (0 ∷ 1 ∷ 0 ∷ 0 ∷ 0 ∷ 0 ∷ [])
unfolding digit_of character_of hex number_from passing_to
sample_no_setting = refl

pub sample_blocks : Refused (1 ∷ 2 ∷ 0 ∷ 1 ∷ []) (0 ∷ 3 ∷ 0 ∷ 0 ∷ 0 ∷ 0 ∷ [])
unfolding digit_of character_of hex number_from passing_to
sample_blocks = refl

-- "a1001" and "a001" (02, #107)
pub sample_long_head : Refused (10 ∷ 1 ∷ 0 ∷ 0 ∷ 1 ∷ []) (0 ∷ 3 ∷ 0 ∷ 0 ∷ 0 ∷ 0 ∷ [])
unfolding digit_of character_of hex number_from passing_to
sample_long_head = refl

pub sample_head_cut : Refused (10 ∷ 0 ∷ 0 ∷ 1 ∷ []) (0 ∷ 9 ∷ 0 ∷ 0 ∷ 0 ∷ 4 ∷ [])
unfolding digit_of character_of hex number_from passing_to
sample_head_cut = refl

pub sample_length : Refused (1 ∷ 0 ∷ 0 ∷ 1 ∷ 2 ∷ 4 ∷ 3 ∷ []) (0 ∷ 10 ∷ 0 ∷ 0 ∷ 0 ∷ 0 ∷ [])
unfolding digit_of character_of hex number_from passing_to
sample_length = refl

-- All letters z: question 11 comes before 9.
pub sample_long : refusal (first_no (line_questions (replicate (most_characters + 1) 122))) ≡ map character_of (0 ∷ 11 ∷ 0 ∷ 0 ∷ 0 ∷ 0 ∷ [])
unfolding digit_of character_of hex number_from passing_to
sample_long = refl

-- "12g" and "12": the first wrong character, else the length.
pub sample_wrong : refusal (first_no (line_questions (49 ∷ 50 ∷ 103 ∷ []))) ≡ map character_of (0 ∷ 9 ∷ 0 ∷ 0 ∷ 0 ∷ 2 ∷ [])
unfolding digit_of character_of hex number_from passing_to
sample_wrong = refl

pub sample_short : Refused (1 ∷ 2 ∷ []) (0 ∷ 9 ∷ 0 ∷ 0 ∷ 0 ∷ 2 ∷ [])
unfolding digit_of character_of hex number_from passing_to
sample_short = refl

-- Whatever output line the promise allows for a line is one of these digits.
abbrev pub Gets : List ℕ → List ℕ → Type 0
Gets line text = (shown : List ℕ) → Answers line shown → shown ≡ map character_of text

-- 01's first line, with four altered symbols, all in closing blocks: its answer "becomes `00000010011`" (02, #102; `sample_read`, proofs/Samples) ..
abbrev pub SampleRead : Type 0
SampleRead =
    Gets (map character_of (1 ∷ 0 ∷ 0 ∷ 1 ∷ 2 ∷ 4 ∷ 3 ∷ 1 ∷ 2 ∷ 3 ∷ 2 ∷ 3 ∷ 0 ∷ 0 ∷ 0 ∷ 0 ∷ [])) (0 ∷ 0 ∷ 0 ∷ 0 ∷ 0 ∷ 0 ∷ 1 ∷ 0 ∷ 0 ∷ 1 ∷ 1 ∷ [])

-- .. and its second, with one more (`sample_none`).
abbrev pub SampleNone : Type 0
SampleNone = Gets (map character_of (1 ∷ 0 ∷ 0 ∷ 1 ∷ 2 ∷ 4 ∷ 3 ∷ 1 ∷ 2 ∷ 3 ∷ 2 ∷ 0 ∷ 0 ∷ 0 ∷ 0 ∷ 0 ∷ [])) (0 ∷ 7 ∷ 0 ∷ 0 ∷ 0 ∷ 0 ∷ [])

-- "With setting 1, 2431 followed by eight unknown symbols gives message 1", and "the line's answer doesn't show" their number (02, #106; `sample_unknown`).
abbrev pub SampleUnknown : Type 0
SampleUnknown =
    Gets (map character_of (1 ∷ 0 ∷ 0 ∷ 1 ∷ 2 ∷ 4 ∷ 3 ∷ 1 ∷ []) ++ replicate 8 45) (0 ∷ 0 ∷ 0 ∷ 0 ∷ 0 ∷ 0 ∷ 1 ∷ 0 ∷ 0 ∷ 1 ∷ 1 ∷ [])

-- A long head in the place of the first line's short one: "its success line repeats that five-character head" (02, #107; `sample_long_read`).
abbrev pub SampleLongRead : Type 0
SampleLongRead =
    Gets (map character_of (10 ∷ 0 ∷ 0 ∷ 0 ∷ 1 ∷ 2 ∷ 4 ∷ 3 ∷ 1 ∷ 2 ∷ 3 ∷ 2 ∷ 3 ∷ 0 ∷ 0 ∷ 0 ∷ 0 ∷ []))
    (0 ∷ 0 ∷ 0 ∷ 0 ∷ 0 ∷ 0 ∷ 10 ∷ 0 ∷ 0 ∷ 0 ∷ 1 ∷ 1 ∷ [])
