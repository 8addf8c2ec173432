-- What the questions of a line say. Holds: `head_found`, `frame_found` (the first wrong character); `head_wrong`, `head_short`, `frame_wrong`, `all_right`
-- (questions 11 and 9, of a head of any length); `HeadYes`, `blocks_few`, `head_yes` (a line whose first questions got "yes"); `frame_first` (where all got it,
-- the first did), `after_head` (question 4 is the last).
use mathlib.Core.Path.{◌≡◌, sym, ap, ◌∙◌}
use mathlib.Core.Bool.{Bool, false, not, ◌&&◌}
use mathlib.Core.List.{List, [], ◌∷◌, ◌++◌}
use Prim.Native.Nat.{ℕ, min, ◌+◌, ◌-◌, ◌*◌, ◌≤◌, ◌<◌}
use native.Mathlib.Nat.{le_trans}
use native.Mathlib.Omega.{arith}
use lib.Dec.{T as Passes, eqb, leb, leb→le, eqb→eq}
use lib.ListN.{length, take, drop, length-take, length-drop}
use lib.Seq.{take_all}
use borrow.Author.Tests.{eq-eqb, ne_eqb, le-leb, lt-leb}
use Rattle.std.specs.Prelude.{Option, MatchOption}
use Rattle.std.specs.List.{position, AllPass}
use Rattle.std.proofs.Math.Bool.{and-false}
use Rattle.std.proofs.lemmas.List.{take_min}
use Rattle.algebra.specs.Ops.{pick}
use Rattle.algebra.proofs.Tests.{and_left, and_right}
use Rattle.code.specs.Settings.{is_setting, setting_of}
use Rattle.question.specs.declared.answer.Answer.{Answer}
use Rattle.question.specs.Questions.{Question, ask, ask_at, answer, first_no, most_blocks, passing_to, is_received, symbol_question}
use Rattle.question.proofs.Questions.{all_yes, yes_all, append_yes, first_yes, first_no_lem, passing_whole, position_found}
use Rattle.line.specs.Heads.{form_in, head_length, setting_in, blocks_in, symbols_in}
use Rattle.line.specs.Questions.{is_digit, is_digit_or_mark, right_with, right_to, most_characters, character_questions}
use Rattle.line.specs.Questions.{head_questions, HoldsFrame, line_questions}
use Rattle.line.proofs.Forms.{form_known, most_few}

-- The first wrong character of a head of so many characters, if there is one.
pub head_found : (long : ℕ) (line : List ℕ) {head : ℕ} {found : Option ℕ} → head ≡ min (length line) long
    → found ≡ position (λ c. not (is_digit c)) (take head line)
    → MatchOption found (AllPass is_digit (take long line)) (λ place. (place ≡ passing_to is_digit (take long line)) × (place < length (take long line)))
head_found long line {head} e f =
    let here : head ≡ min long (length line) = omega arith in
    position_found is_digit (take long line)
    (f ∙ ap (λ (l : List ℕ). position (λ c. not (is_digit c)) l) (ap (λ (t : ℕ). take t line) here ∙ take_min long line))

-- The same of the frame behind it.
pub frame_found : (long : ℕ) (line : List ℕ) {head : ℕ} {found : Option ℕ} → head ≡ long
    → found ≡ position (λ c. not (is_digit_or_mark c)) (take (length line - head) (drop head line))
    → MatchOption found (AllPass is_digit_or_mark (drop long line))
    (λ place. (place ≡ passing_to is_digit_or_mark (drop long line)) × (place < length (drop long line)))
frame_found long line {head} e f =
    let rest : take (length line - head) (drop head line) ≡ drop long line =
    ap (λ (t : ℕ). take (length line - t) (drop t line)) e ∙ take_all (length line - long) (drop long line) (omega (arith, length-drop long line)) in
    position_found is_digit_or_mark (drop long line) (f ∙ ap (λ (l : List ℕ). position (λ c. not (is_digit_or_mark c)) l) rest)

-- Questions 11 and 9 of a line that is not too long, with a head of so many characters: ..
module _ (head : ℕ) (line : List ℕ) (few : length line ≤ most_characters) where
  abbrev of_head : ℕ
  of_head = passing_to is_digit (take head line)

  abbrev of_frame : ℕ
  of_frame = passing_to is_digit_or_mark (drop head line)

  abbrev right : ℕ
  right = right_with head line

  abbrev nine : Question
  nine = ask_at 9 right (leb head (length line) && eqb right (length line))

  abbrev asked_first : Answer
  asked_first = first_no (ask 11 (leb (length line) most_characters) ∷ nine ∷ [])

  eleven : asked_first ≡ first_no (nine ∷ [])
  eleven = first_yes (ask 11 (leb (length line) most_characters)) (nine ∷ []) (le-leb (length line) most_characters few)

  nine_no : {place : ℕ} → right ≡ place → nine.holds ≡ false → answer 9 place ≡ asked_first
  nine_no e h = sym (eleven ∙ (first_no_lem nine [] h ∙ ap (answer 9) e))

  right_in_head : of_head < head → right ≡ of_head
  right_in_head h = ap (λ (t : Bool). pick t (head + of_frame) of_head) (ne_eqb of_head head (λ e. omega arith))

  right_in_frame : of_head ≡ head → right ≡ head + of_frame
  right_in_frame e = ap (λ (t : Bool). pick t (head + of_frame) of_head) (eq-eqb of_head head e)

  -- .. a character of the head is wrong, ..
  pub head_wrong : {place : ℕ} → place ≡ of_head → place < length (take head line) → answer 9 place ≡ asked_first
  head_wrong e h =
      let here : of_head < min head (length line) = omega (arith, length-take head line) in
      nine_no (right_in_head (omega arith) ∙ sym e) (simp (ne_eqb right (length line) (λ z. omega (arith, right_in_head (omega arith))), and-false))

  -- .. or it is short, ..
  pub head_short : {place : ℕ} → place ≡ length line → AllPass is_digit (take head line) → length line < head → answer 9 place ≡ asked_first
  head_short e all h =
      let whole : of_head ≡ length line = omega (arith, passing_whole is_digit (take head line) all, length-take head line) in
      nine_no (right_in_head (omega arith) ∙ (whole ∙ sym e)) (simp (lt-leb head (length line) h))

  module _ (all : AllPass is_digit (take head line)) (least : head ≤ length line) where
    head_right : of_head ≡ head
    head_right = omega (arith, passing_whole is_digit (take head line) all, length-take head line)

    -- .. or a character of the frame is wrong, ..
    pub frame_wrong : {place : ℕ} → place ≡ of_frame → place < length (drop head line) → answer 9 (head + place) ≡ asked_first
    frame_wrong e h =
        let to : right ≡ head + of_frame = right_in_frame head_right in
        nine_no (to ∙ ap (λ (t : ℕ). head + t) (sym e)) (simp (ne_eqb right (length line) (λ z. omega (arith, length-drop head line)), and-false))

    -- .. or none is.
    pub all_right : AllPass is_digit_or_mark (drop head line) → answer 0 0 ≡ asked_first
    all_right rest =
        let whole : right ≡ length line =
        omega (arith, right_in_frame head_right, passing_whole is_digit_or_mark (drop head line) rest, length-drop head line) in
        sym (eleven ∙ first_yes nine [] (simp (le-leb head (length line) least, eq-eqb right (length line) whole)))

-- Questions 11, 9, 1, 3 and 10 got "yes".
pub record HeadYes (line : List ℕ) : Type 0 where
  pub characters : length line ≤ most_characters
  pub least : head_length (form_in line) ≤ length line
  pub setting : Passes (is_setting (setting_in line))
  pub blocks : 1 ≤ blocks_in line
  pub most : blocks_in line ≤ (form_in line).most
  pub long : length line - head_length (form_in line) ≡ (blocks_in line + (setting_of (setting_in line)).m) * (setting_of (setting_in line)).n

-- T is within the library's limit, in either form.
pub blocks_few : {line : List ℕ} → HeadYes line → blocks_in line ≤ most_blocks
blocks_few {line} asked = le_trans asked.most (most_few (form_known line))

pub head_yes : (line : List ℕ) → HoldsFrame line → HeadYes line
head_yes line e =
    let all = all_yes (character_questions line ++ head_questions line) tt e in
    let head = head_length (form_in line) in
    let T = blocks_in line in
    let p = setting_of (setting_in line) in
    let shape = all.1.1.1.1.0 in
    record {
      characters = leb→le (length line) most_characters all.0;
      least = leb→le head (length line) (and_left (leb head (length line)) (eqb (right_to line) (length line)) all.1.0);
      setting = all.1.1.0;
      blocks = leb→le 1 T (and_left (leb 1 T) (eqb (length line - head) ((T + p.m) * p.n)) shape);
      most = leb→le T (form_in line).most all.1.1.1.0;
      long = eqb→eq (length line - head) ((T + p.m) * p.n) (and_right (leb 1 T) (eqb (length line - head) ((T + p.m) * p.n)) shape);
    }

-- They are the first questions of a line.
pub frame_first : (line : List ℕ) → (first_no (line_questions line)).number ≡ 0 → HoldsFrame line
frame_first line e =
    let all = all_yes (line_questions line) tt e in
    ap (λ (a : Answer). a.number)
    (yes_all (character_questions line ++ head_questions line) (all.0, (all.1.0, (all.1.1.0, (all.1.1.1.0, (all.1.1.1.1.0, tt))))))

-- Then question 4 is left.
pub after_head : (line : List ℕ) → HoldsFrame line
    → first_no (line_questions line) ≡ first_no (symbol_question (is_received (setting_of (setting_in line)).q) (symbols_in line) ∷ [])
after_head line e =
    append_yes (character_questions line ++ head_questions line) (symbol_question (is_received (setting_of (setting_in line)).q) (symbols_in line) ∷ []) tt e
