-- The two forms of a line's head. Holds: `form_known` (a line's head is of one of them), `form_above` (what the first digit says); `length_most`, `most_few`
-- (bounds of both).
use mathlib.Core.Bool.{Bool, true, false, ◌&&◌}
use mathlib.Core.List.{List}
use Prim.Native.Nat.{ℕ, ◌≤◌}
use native.Mathlib.Omega.{arith}
use lib.Dec.{T as Passes, leb, lit≤, leb→le}
use lib.ListN.{get_or}
use Rattle.algebra.specs.Ops.{pick}
use Rattle.algebra.proofs.Tests.{and_left}
use Rattle.question.specs.Questions.{most_blocks}
use Rattle.line.specs.declared.head.HeadForm.{HeadForm}
use Rattle.line.specs.Characters.{digit_of}
use Rattle.line.specs.Heads.{short_form, long_form, form_in, head_length, IsForm, is_short, is_long}

-- Whatever a line begins with, its head is of one of the two forms.
pub form_known : (line : List ℕ) → IsForm (form_in line)
form_known line = at (leb 10 (digit_of (get_or line 0 0)) && leb (digit_of (get_or line 0 0)) 14)
  where
    at : (b : Bool) → IsForm (pick b long_form short_form)
    at true = is_long
    at false = is_short

-- Its first digit is at least as far up as the form says, so it says a setting's number.
pub form_above : (line : List ℕ) → (form_in line).above ≤ digit_of (get_or line 0 0)
form_above line =
    let digit = digit_of (get_or line 0 0) in
    at digit (leb 10 digit && leb digit 14) (λ t. omega (arith, leb→le 10 digit (and_left (leb 10 digit) (leb digit 14) t)))
  where
    at : (digit : ℕ) (b : Bool) → (Passes b → 9 ≤ digit) → (pick b long_form short_form).above ≤ digit
    at digit true h = h tt
    at digit false h = omega arith

-- A head has at most five characters, and its T is at most the library's limit.
pub length_most : {form : HeadForm} → IsForm form → head_length form ≤ head_length long_form
length_most is_short = lit≤ tt
length_most is_long = lit≤ tt

pub most_few : {form : HeadForm} → IsForm form → form.most ≤ most_blocks
most_few is_short = lit≤ tt
most_few is_long = lit≤ tt
