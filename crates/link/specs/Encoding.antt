-- What encoding promises. Holds: `encoded_area`, `Encoded`.
use Rattle.std.specs.Prelude.{◌≡◌, List, ◌++◌, ℕ, ◌+◌, ◌*◌, ◌/◌, eqb, length, drop}
use Rattle.algebra.specs.Ops.{pick}
use Rattle.code.specs.declared.Setting.{Setting}
use Rattle.code.specs.Settings.{setting_of}
use Rattle.code.specs.Windows.{transmission}
use Rattle.question.specs.declared.answer.Answer.{Answer}
use Rattle.question.specs.Questions.{first_no, encoding_questions}

-- The transmission, and the bytes of the area past it as they were.
abbrev pub encoded_area : Setting → List ℕ → List ℕ → List ℕ
encoded_area p message area = transmission p message ++ drop ((length message / p.k + p.m) * p.n) area

-- The answer is the first "no"; the transmission area is unchanged after a "no", and otherwise holds the transmission.
pub record Encoded (number : ℕ) (message before : List ℕ) (r : Answer) (after : List ℕ) : Type 0 where
  pub answered : r ≡ first_no (encoding_questions number message (length before))
  pub area : after ≡ pick (eqb r.number 0) (encoded_area (setting_of number) message before) before
