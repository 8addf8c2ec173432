-- Heads that are read as they were written, and written as they were read (02, #107). Holds: `head_read`, `heads_apart`; `frame_held`; `passing_most`,
-- `head_repeated`.
use mathlib.Core.Path.{◌≡◌, sym, ap, ap₂, subst, ◌∙◌}
use mathlib.Core.Bool.{Bool, true}
use mathlib.Core.List.{List, [], ◌∷◌, ◌++◌, map}
use Prim.Native.Nat.{ℕ, suc, ◌+◌, ◌-◌, ◌*◌, ◌%◌, ◌≤◌, ◌<◌, ◌^◌}
use native.Mathlib.Nat.{le_trans}
use native.Mathlib.Omega.{arith}
use lib.Dec.{T as Passes, lit≤, eqb, leb, le→leb, eqb→eq}
use lib.ListN.{length, take, drop, length-append, length-drop}
use lib.Seq.{length-take-le}
use borrow.Author.Tests.{eq-eqb, le-leb, ltb-true}
use Rattle.std.specs.List.{AllPass}
use Rattle.std.proofs.lemmas.List.{drop_at, take_at}
use Rattle.std.proofs.lemmas.List.Elements.{All-head, All-tail, All-append}
use Rattle.std.proofs.lemmas.List.Sums.{prefix_len-le-length}
use Rattle.std.proofs.lemmas.Bool.Decides.{nat_tests}
use Rattle.algebra.proofs.Tests.{and_right}
use Rattle.code.specs.declared.Setting.{Setting}
use Rattle.code.specs.Settings.{is_setting, setting_of}
use Rattle.code.proofs.Settings.{setting_range}
use Rattle.question.specs.declared.answer.Answer.{Answer}
use Rattle.question.specs.Questions.{answer, first_no, passing_to}
use Rattle.question.proofs.Questions.{all_yes, yes_all, append_yes, whole_passing, transmission_most}
use Rattle.line.specs.declared.head.HeadForm.{HeadForm}
use Rattle.line.specs.Characters.{digit_of, character_of, hex, number_in}
use Rattle.line.specs.Heads.{form_of, form_in, head_length, Head, head_in, setting_in, blocks_in, head_text}
use Rattle.line.specs.Heads.{IsForm, is_short, is_long, IsHead, HeadRead, HeadsApart}
use Rattle.line.specs.Questions.{is_digit, is_digit_or_mark, right_with, right_to, most_characters, character_questions, length_question}
use Rattle.line.specs.Questions.{head_questions, FrameHeld, HeadRepeated}
use Rattle.line.proofs.Digits.{digit_back, character_back}
use Rattle.line.proofs.Hex.{length_hex, number_read, hex_read, hex_digits}
use Rattle.line.proofs.Forms.{form_known, form_above, length_most, most_few}
use Rattle.line.proofs.Placed.{head_long}
use Rattle.line.proofs.Asked.{all_right, head_yes}

-- A head of this form is read as it was written: its first digit says the form, and there are digits enough for T.
record Readable (form : HeadForm) (setting : ℕ) : Type 0 where
  digit : form.above + setting < 16
  form_is : form_of (form.above + setting) ≡ form
  blocks : form.most < 16 ^ form.digits

readable : {form : HeadForm} (setting : ℕ) → IsForm form → Passes (is_setting setting) → Readable form setting
readable setting is_short known =
    let range = setting_range setting known in record { digit = omega arith; form_is = grind (arith, nat_tests); blocks = lit≤ tt }
readable setting is_long known =
    let range = setting_range setting known in record { digit = omega arith; form_is = grind (arith, nat_tests); blocks = lit≤ tt }

-- What stands behind a head.
behind : (head : Head) (symbols : List ℕ) → drop (head_length head.form) (head_text head ++ symbols) ≡ symbols
behind head symbols = drop_at (head_text head) symbols (head_length head.form) (head_long head)

pub head_read : HeadRead
unfolding hex
head_read head symbols is =
    let R = readable head.setting is.form is.setting in
    let first = head.form.above + head.setting in
    let digits = hex head.form.digits head.blocks in
    let digit : digit_of (character_of (first % 16)) ≡ first = digit_back (first % 16) (omega arith) ∙ omega (arith, R.digit) in
    let setting : first - head.form.above ≡ head.setting = omega arith in
    let front : take head.form.digits (digits ++ symbols) ≡ digits = take_at digits symbols head.form.digits (length_hex head.form.digits head.blocks) in
    let blocks : number_in digits ≡ head.blocks = number_read head.form.digits head.blocks (omega (arith, R.blocks, is.blocks)) in
    let all : head_in (head_text head ++ symbols) ≡ head = simp (digit, R.form_is, setting, front, blocks) in (
      all,
      ap (λ (h : Head). map digit_of (drop (head_length h.form) (head_text head ++ symbols))) all ∙ ap (map digit_of) (behind head symbols),
    )

pub heads_apart : HeadsApart
heads_apart head other symbols other_symbols is other_is e =
    let same : head ≡ other = sym (head_read head symbols is).0 ∙ (ap head_in e ∙ (head_read other other_symbols other_is).0) in
    (same, sym (behind head symbols) ∙ (ap₂ (λ (h : Head) (t : List ℕ). drop (head_length h.form) t) same e ∙ behind other other_symbols))

-- A line that is made from a head holds a frame.
module _ (head : Head) (symbols : List ℕ) (is : IsHead head) where
  abbrev line : List ℕ
  line = head_text head ++ symbols

  abbrev p : Setting
  p = setting_of head.setting

  read : head_in line ≡ head
  read = (head_read head symbols is).0

  form : form_in line ≡ head.form
  form = ap (λ (h : Head). h.form) read

  front : take (head_length (form_in line)) line ≡ head_text head
  front = ap (λ (f : HeadForm). take (head_length f) line) form ∙ take_at (head_text head) symbols (head_length head.form) (head_long head)

  back : drop (head_length (form_in line)) line ≡ symbols
  back = ap (λ (f : HeadForm). drop (head_length f) line) form ∙ behind head symbols

  line_long : length line ≡ head_length (form_in line) + length symbols
  line_long = omega (arith, length-append (head_text head) symbols, head_long head, ap head_length form)

  module _ (least : 1 ≤ head.blocks) (long : length symbols ≡ (head.blocks + p.m) * p.n) where
    few : length line ≤ most_characters
    few =
        let blocks = le_trans is.blocks (most_few is.form) in
        omega (arith, line_long, ap head_length form, length_most is.form, transmission_most head.setting head.blocks is.setting blocks)

    -- Questions 11 and 9 ..
    characters_right : AllPass is_digit_or_mark symbols → answer 0 0 ≡ first_no (character_questions line)
    characters_right all =
        let digits = All-append (λ c. is_digit c ≡ true) (hex 1 (head.form.above + head.setting)) (hex head.form.digits head.blocks)
        (hex_digits 1 (head.form.above + head.setting)) (hex_digits head.form.digits head.blocks) in
        all_right (head_length (form_in line)) line few (subst (AllPass is_digit) (sym front) digits) (omega (arith, line_long))
        (subst (AllPass is_digit_or_mark) (sym back) all)

    -- .. and 1, 3 and 10.
    head_right : first_no (head_questions line) ≡ answer 0 0
    head_right =
        let setting : setting_in line ≡ head.setting = ap (λ (h : Head). h.setting) read in
        let blocks : blocks_in line ≡ head.blocks = ap (λ (h : Head). h.blocks) read in
        let left : length line - head_length (form_in line) ≡ (blocks_in line + (setting_of (setting_in line)).m) * (setting_of (setting_in line)).n =
        ap (λ (t : ℕ). t - head_length (form_in line)) line_long ∙ (omega arith ∙ (long
        ∙ ap₂ (λ (T s : ℕ). (T + (setting_of s).m) * (setting_of s).n) (sym blocks) (sym setting))) in
        let ten : (length_question (setting_of (setting_in line)) (blocks_in line) (length line - head_length (form_in line))).holds ≡ true =
        simp (le-leb 1 (blocks_in line) (omega (arith, blocks)), eq-eqb _ _ left) in
        yes_all (head_questions line) (
          subst (λ (t : ℕ). Passes (is_setting t)) (sym setting) is.setting,
          (le→leb (blocks_in line) (form_in line).most (omega (arith, blocks, ap (λ (f : HeadForm). f.most) form, is.blocks)), (subst Passes (sym ten) tt, tt)),
        )

pub frame_held : FrameHeld
frame_held head symbols made =
    ap (λ (a : Answer). a.number)
    (append_yes (character_questions (line head symbols made.is_head)) (head_questions (line head symbols made.is_head)) tt
    (sym (ap (λ (a : Answer). a.number) (characters_right head symbols made.is_head made.some made.long made.right)))
    ∙ head_right head symbols made.is_head made.some made.long)

-- A line whose head is all digits begins with that head, written out.
head_written : (line : List ℕ) → head_length (form_in line) ≤ length line → AllPass is_digit (take (head_length (form_in line)) line)
    → head_text (head_in line) ≡ take (head_length (form_in line)) line
unfolding hex
head_written [] least all = absurd (omega arith)
head_written (c ∷ rest) least all =
    let form = form_in (c ∷ rest) in
    let later = take form.digits rest in
    let next : head_length form ≡ suc form.digits = omega arith in
    let whole : take (head_length form) (c ∷ rest) ≡ c ∷ later = ap (λ (t : ℕ). take t (c ∷ rest)) next in
    let digits : AllPass is_digit (c ∷ later) = subst (AllPass is_digit) whole all in
    let small : digit_of c < 16 = ltb-true (digit_of c) 16 (All-head (λ x. is_digit x ≡ true) c later digits) in
    let digit : (form.above + (digit_of c - form.above)) % 16 ≡ digit_of c = omega (arith, form_above (c ∷ rest)) in
    let long : length later ≡ form.digits = length-take-le form.digits rest (omega arith) in
    let behind : hex form.digits (number_in later) ≡ later =
    subst (λ (t : ℕ). hex t (number_in later) ≡ later) long (hex_read later (All-tail (λ x. is_digit x ≡ true) c later digits)) in
    ap₂ (λ (a : ℕ) (b : List ℕ). a ∷ b) (ap character_of digit ∙ character_back c small) behind ∙ sym whole

-- No more characters are right than there are.
pub passing_most : (test : ℕ → Bool) (bytes : List ℕ) → passing_to test bytes ≤ length bytes
unfolding passing_to
passing_most test bytes = prefix_len-le-length test bytes

-- If all of a line is right, all of its head is, and all behind it.
all_of_right : (head : ℕ) (line : List ℕ) → head ≤ length line → right_with head line ≡ length line
    → AllPass is_digit (take head line) × AllPass is_digit_or_mark (drop head line)
all_of_right head line least right =
    let long : length (take head line) ≡ head = length-take-le head line least in
    let rest : length (drop head line) ≡ length line - head = length-drop head line in
    let most = passing_most is_digit (take head line) in
    let later = passing_most is_digit_or_mark (drop head line) in
    (whole_passing is_digit (take head line) (grind (arith, nat_tests)), whole_passing is_digit_or_mark (drop head line) (grind (arith, nat_tests)))

pub head_repeated : HeadRepeated
head_repeated line holds =
    let known = head_yes line holds in
    let head = head_length (form_in line) in
    let nine = (all_yes (character_questions line ++ head_questions line) tt holds).1.0 in
    let right = eqb→eq (right_to line) (length line) (and_right (leb head (length line)) (eqb (right_to line) (length line)) nine) in
    let all = all_of_right head line known.least right in (
      head_written line known.least all.0,
      record {
        is_head = record { form = form_known line; setting = known.setting; blocks = known.most };
        some = known.blocks;
        long = length-drop head line ∙ known.long;
        right = all.1;
      },
    )
