-- The questions of a line (01, "Lines at the planning desk" and "Questions, asked in this order"; 02, #106, #107).
-- Holds: `is_digit`, `is_digit_or_mark`, `right_with`, `right_to`; `most_characters` with its number; `character_questions`, `length_question`,
-- `head_questions`, `HoldsFrame`, `HeadAndFrame`, `FrameHeld`, `HeadRepeated`; `line_questions`; `line_samples`, `head_question_samples`, `long_line_sample`.
use Rattle.std.specs.Prelude.{◌≡◌, refl, Bool, ◌&&◌, List, [], ◌∷◌, ◌++◌, map, ℕ, ◌+◌, ◌-◌, ◌*◌, ◌≤◌, eqb, leb, length, take, drop, replicate}
use Rattle.std.specs.List.{AllPass}
use Rattle.algebra.specs.Ops.{pick}
use Rattle.code.specs.declared.Setting.{Setting}
use Rattle.code.specs.Settings.{is_setting, setting_of}
use Rattle.question.specs.Questions.{Question, ask, ask_at, answer, first_no, most_symbols, passing_to, is_symbol, is_received, symbol_question}
use Rattle.line.specs.Characters.{digit_of, character_of, number_from}
use Rattle.line.specs.Heads.{long_form, form_in, head_length, Head, head_in, setting_in, blocks_in, symbols_in, head_text, IsHead}

-- What question 9 admits: "0-9 or a-f", and, behind the head (its "first four characters", 02, #106; "five characters for the new heads, with unknown marks
-- only after them", #107), `-` too.
abbrev pub is_digit : ℕ → Bool
is_digit c = is_symbol 16 (digit_of c)

abbrev pub is_digit_or_mark : ℕ → Bool
is_digit_or_mark c = is_received 16 (digit_of c)

-- How many characters stand before the first wrong one: a head of digits, then digits and marks.
abbrev pub right_with : ℕ → List ℕ → ℕ
right_with head line =
    pick (eqb (passing_to is_digit (take head line)) head) (head + passing_to is_digit_or_mark (drop head line)) (passing_to is_digit (take head line))

abbrev pub right_to : List ℕ → ℕ
right_to line = right_with (head_length (form_in line)) line

-- The longest frame behind the longest head.
abbrev pub most_characters : ℕ
most_characters = head_length long_form + most_symbols

-- "Question 11 admits 61,490 characters" (02, #107)
pub most_characters_lem : most_characters ≡ 61490
most_characters_lem = refl

-- 11: at most so many characters? 9: "At least" as many as its head has, and all right? Place: "the first wrong character, else the length".
abbrev pub character_questions : List ℕ → List Question
character_questions line =
    ask 11 (leb (length line) most_characters)
    ∷ ask_at 9 (right_to line) (leb (head_length (form_in line)) (length line) && eqb (right_to line) (length line))
    ∷ []

-- 10: "Is T at least 1 and are exactly (T+m) × n digits left?" It counts a mark as a digit (02, #106).
abbrev pub length_question : Setting → ℕ → ℕ → Question
length_question p T left = ask 10 (leb 1 T && eqb left ((T + p.m) * p.n))

-- 1: "Question 1 admits 1 to 5" (02, #101). "Question 3 uses the limit of the head" (02, #107). Then 10.
abbrev pub head_questions : List ℕ → List Question
head_questions line =
    ask 1 (is_setting (setting_in line))
    ∷ ask 3 (leb (blocks_in line) (form_in line).most)
    ∷ length_question (setting_of (setting_in line)) (blocks_in line) (length line - head_length (form_in line))
    ∷ []

-- 11, 9, 1, 3 and 10 get "yes": the line holds a frame.
abbrev pub HoldsFrame : List ℕ → Type 0
HoldsFrame line = (first_no (character_questions line ++ head_questions line)).number ≡ 0

-- What a line is made from: a head, and in digits and marks as many symbols as it says.
pub record HeadAndFrame (head : Head) (symbols : List ℕ) : Type 0 where
  pub is_head : IsHead head
  pub some : 1 ≤ head.blocks
  pub long : length symbols ≡ (head.blocks + (setting_of head.setting).m) * (setting_of head.setting).n
  pub right : AllPass is_digit_or_mark symbols

-- Each line that is made so holds a frame (`frame_held`, proofs/Heads) ..
abbrev pub FrameHeld : Type 0
FrameHeld = (head : Head) (symbols : List ℕ) → HeadAndFrame head symbols → HoldsFrame (head_text head ++ symbols)

-- .. and no other does: one that holds a frame is its head, written out, and such symbols (`head_repeated`). So "its success line repeats that five-character
-- head" (02, #107).
abbrev pub HeadRepeated : Type 0
HeadRepeated = (line : List ℕ) → HoldsFrame line
    → (head_text (head_in line) ≡ take (head_length (form_in line)) line) × HeadAndFrame (head_in line) (drop (head_length (form_in line)) line)

-- "A line: 11 .. 9 .. 1; 3; 10 .. 4; 7." 4 counts its place in symbols. (7 is asked of the frame: see `Answers`.)
abbrev pub line_questions : List ℕ → List Question
line_questions line = character_questions line ++ head_questions line ++ symbol_question (is_received (setting_of (setting_in line)).q) (symbols_in line) ∷ []

-- Examples, computed: the place of 4 is counted in symbols, that of 9 in characters. "Their symbols need all sixteen hexadecimal digits", and "a line beginning
-- with 4 or 5 no longer gets 1" (02, #101). A frame may hold unknown symbols (`-` is 45), and the head none: "1-" and "100-2" get 9, "f000-" gets 1.
pub line_samples : first_no (line_questions (map character_of (1 ∷ 0 ∷ 0 ∷ 1 ∷ 2 ∷ 4 ∷ 3 ∷ 5 ∷ 2 ∷ 3 ∷ 2 ∷ 3 ∷ 0 ∷ 0 ∷ 0 ∷ 0 ∷ [])))
    ∷ first_no (line_questions (49 ∷ 50 ∷ 103 ∷ []))
    ∷ first_no (line_questions (map character_of (4 ∷ 0 ∷ 0 ∷ 1 ∷ replicate 60 15)))
    ∷ first_no (line_questions (map character_of (5 ∷ 0 ∷ 0 ∷ 1 ∷ [])))
    ∷ first_no (line_questions (map character_of (1 ∷ 0 ∷ 0 ∷ 1 ∷ 2 ∷ 4 ∷ 3 ∷ 1 ∷ []) ++ replicate 8 45))
    ∷ first_no (line_questions (49 ∷ 45 ∷ []))
    ∷ first_no (line_questions (49 ∷ 48 ∷ 48 ∷ 45 ∷ 50 ∷ []))
    ∷ first_no (line_questions (102 ∷ 48 ∷ 48 ∷ 48 ∷ 45 ∷ []))
    ∷ []
    ≡ answer 4 3 ∷ answer 9 2 ∷ answer 0 0 ∷ answer 10 0 ∷ answer 0 0 ∷ answer 9 1 ∷ answer 9 3 ∷ answer 1 0 ∷ []
unfolding digit_of character_of passing_to number_from
line_samples = refl

-- Of heads (02, #107): "1200" and "a1000" lack their frames, "1201" and "a1001" are past their heads' limits; a T of 0 gets 10; "a001" lacks a character, and in
-- "a000-" the fifth is wrong, as in "1001g"; behind a head `-` is right; "f0001" and "60011" name no setting, and 1 comes before 3 in "6201", 10 before 4 in
-- "a00015".
pub head_question_samples : map (λ line. first_no (line_questions line)) (
    map character_of (1 ∷ 2 ∷ 0 ∷ 0 ∷ [])
    ∷ map character_of (1 ∷ 2 ∷ 0 ∷ 1 ∷ [])
    ∷ map character_of (10 ∷ 1 ∷ 0 ∷ 0 ∷ 0 ∷ [])
    ∷ map character_of (10 ∷ 1 ∷ 0 ∷ 0 ∷ 1 ∷ [])
    ∷ map character_of (10 ∷ 0 ∷ 0 ∷ 0 ∷ 0 ∷ [])
    ∷ map character_of (10 ∷ 0 ∷ 0 ∷ 1 ∷ [])
    ∷ (map character_of (10 ∷ 0 ∷ 0 ∷ 0 ∷ []) ++ 45 ∷ [])
    ∷ (map character_of (1 ∷ 0 ∷ 0 ∷ 1 ∷ []) ++ 103 ∷ [])
    ∷ (map character_of (10 ∷ 0 ∷ 0 ∷ 0 ∷ 1 ∷ 2 ∷ 4 ∷ 3 ∷ 1 ∷ []) ++ replicate 8 45)
    ∷ map character_of (15 ∷ 0 ∷ 0 ∷ 0 ∷ 1 ∷ [])
    ∷ map character_of (6 ∷ 0 ∷ 0 ∷ 1 ∷ 1 ∷ [])
    ∷ map character_of (6 ∷ 2 ∷ 0 ∷ 1 ∷ [])
    ∷ map character_of (10 ∷ 0 ∷ 0 ∷ 0 ∷ 1 ∷ 5 ∷ [])
    ∷ []
    )
    ≡ answer 10 0 ∷ answer 3 0 ∷ answer 10 0 ∷ answer 3 0 ∷ answer 10 0 ∷ answer 9 4 ∷ answer 9 4 ∷ answer 9 4 ∷ answer 0 0 ∷ answer 1 0 ∷ answer 1 0
    ∷ answer 1 0 ∷ answer 10 0 ∷ []
unfolding digit_of character_of passing_to number_from
head_question_samples = refl

-- Of a line one character too long only the length is looked at: 11 comes before 9, whatever it holds.
pub long_line_sample : (line : List ℕ) → length line ≡ 61491 → first_no (line_questions line) ≡ answer 11 0
long_line_sample line e = simp e
