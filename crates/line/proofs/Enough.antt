-- No digit of a place or a count is lost: four say every place of a line and every altered count (02, #107). Holds: `digits_enough`.
use mathlib.Core.Path.{◌≡◌, refl, ap}
use mathlib.Core.Bool.{Bool, true, false}
use mathlib.Core.List.{List, [], ◌∷◌}
use Prim.Native.Nat.{ℕ, ◌+◌, ◌≤◌, ◌<◌}
use native.Mathlib.Nat.{le_trans, mul-le-mul_left, div-mul-le_self, le-div_iff_mul-le}
use native.Mathlib.Omega.{arith}
use lib.Dec.{T as Passes, leb}
use lib.ListN.{length, take, drop, length-take, length-drop, length-map}
use borrow.Author.Tests.{leb-true}
use Rattle.std.proofs.lemmas.Bool.Decides.{nat_tests}
use Rattle.algebra.specs.Ops.{pick}
use Rattle.code.specs.Code.{distances_to, limit}
use Rattle.code.specs.Settings.{settings, is_setting, setting_of, largest}
use Rattle.code.specs.Windows.{windows_for, most_altered}
use Rattle.code.proofs.AlteredBound.{altered_bound}
use Rattle.code.proofs.Settings.{largest_of}
use Rattle.question.specs.declared.answer.Answer.{Answer}
use Rattle.question.specs.Questions.{Question, answer, first_no, most_blocks, is_received}
use Rattle.link.specs.Decoding.{FrameDecoded, found, none_fits}
use Rattle.line.specs.Characters.{digit_of}
use Rattle.line.specs.Heads.{form_in, head_length, setting_in, blocks_in, symbols_in}
use Rattle.line.specs.Questions.{is_digit, is_digit_or_mark, right_with, most_characters, line_questions}
use Rattle.line.specs.Answering.{DigitsEnough}
use Rattle.line.proofs.Forms.{form_known, length_most}
use Rattle.line.proofs.Asked.{blocks_few, head_yes, frame_first}
use Rattle.line.proofs.Heads.{passing_most}

-- No "no" has a place beyond this.
abbrev PlacesWithin : ℕ → List Question → Type 0
PlacesWithin most [] = Unit
PlacesWithin most (x ∷ rest) = (x.holds ≡ false → x.place ≤ most) × PlacesWithin most rest

place_within : (most : ℕ) (l : List Question) → PlacesWithin most l → (first_no l).place ≤ most
place_within most [] within = omega arith
place_within most (x ∷ rest) within = at x.holds within.0 (place_within most rest within.1)
  where
    at : (t : Bool) → (t ≡ false → x.place ≤ most) → (first_no rest).place ≤ most → (pick t (first_no rest) (answer x.number x.place)).place ≤ most
    at true here later = later
    at false here later = here refl

-- No more characters are right than there are.
right_most : (head : ℕ) (line : List ℕ) → right_with head line ≤ length line
right_most head line =
    let in_head = passing_most is_digit (take head line) in
    let behind = passing_most is_digit_or_mark (drop head line) in
    grind (arith, nat_tests, length-take {A = ℕ}, length-drop {A = ℕ})

-- The places of 9 and 4 are in the line, and it is no longer than 11 admits.
place_few : (line : List ℕ) → (first_no (line_questions line)).place ≤ 61489
place_few line = at (leb (length line) most_characters) refl
  where
    at : (t : Bool) → leb (length line) most_characters ≡ t → (pick t (first_no (drop 1 (line_questions line))) (answer 11 0)).place ≤ 61489
    at true e =
        let few : length line ≤ most_characters = leb-true (length line) most_characters e in
        let head = head_length (form_in line) in
        let most = length_most (form_known line) in
        let right = right_most head line in
        let symbols = passing_most (is_received (setting_of (setting_in line)).q) (symbols_in line) in
        place_within 61489 (drop 1 (line_questions line)) (
          λ no. grind (arith, nat_tests),
          (λ no. omega arith, (λ no. omega arith, (λ no. omega arith, (λ no. omega (arith, length-map (drop head line) digit_of, length-drop head line), tt)))),
        )
    at false e = omega arith

-- The most symbols that are altered, of any setting and T.
most_altered_lem : largest (λ p. most_altered p most_blocks) settings ≡ 16384
unfolding distances_to
most_altered_lem = refl

count_few : (setting T : ℕ) (reception : List ℕ) → Passes (is_setting setting) → T ≤ most_blocks → {r : Answer} {message sent : List ℕ}
    → FrameDecoded (setting_of setting) T reception r message sent → r.altered ≤ 16384
count_few setting T reception known few {message = message} (found F e t) =
    let p = setting_of setting in
    let positive : 0 < p.m + 1 = omega arith in
    let more : T + p.m ≤ most_blocks + p.m = omega arith in
    let windows : windows_for p T ≤ windows_for p most_blocks = (le-div_iff_mul-le positive).1 (le_trans (div-mul-le_self (T + p.m) (p.m + 1)) more) in
    let one = altered_bound p T reception message F in
    let all = mul-le-mul_left (limit p.n p.k p.m) windows in
    let every = largest_of (λ p. most_altered p most_blocks) setting known in
    omega (arith, ap (λ (a : Answer). a.altered) e, one, all, every, most_altered_lem)
count_few setting T reception known few (none_fits far e m t) = omega (arith, ap (λ (a : Answer). a.altered) e)

pub digits_enough : DigitsEnough
digits_enough line = (
  place_few line,
  λ right r message sent D. let asked = head_yes line (frame_first line right) in
      count_few (setting_in line) (blocks_in line) (symbols_in line) asked.setting (blocks_few asked) D,
)
