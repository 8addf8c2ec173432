-- Demand 3, third sentence, about what calls returned: stated over decoding's own promise (`returned_messages_agree`, proofs/Demand3). The first two sentences
-- are `FirstDifferingBlock` and `AtMostOneFits` of crate `code`. Holds: `Returned`, `ReturnedMessagesAgree`.
use Rattle.std.specs.Prelude.{◌≡◌, List, ℕ, ◌+◌, ◌*◌, ◌<◌, length, take}
use Rattle.code.specs.Settings.{setting_of}
use Rattle.code.specs.Windows.{Fits}
use Rattle.question.specs.declared.answer.Answer.{Answer}
use Rattle.question.specs.Questions.{first_no, blocks_of, decoding_questions}
use Rattle.link.specs.Decoding.{Decoded}

-- A call decoded a decodable reception, that is one that some message fits, and left `returned` in its message area, whatever the areas held.
pub record Returned (number : ℕ) (reception returned : List ℕ) : Type 0 where
  pub message : List ℕ
  pub transmitted : List ℕ
  pub answer : Answer
  pub transmitted' : List ℕ
  pub well_formed : (first_no (decoding_questions number reception (length message) (length transmitted))).number ≡ 0
  pub fitting : List ℕ
  pub decodable : Fits (setting_of number) (blocks_of (setting_of number) (length reception)) reception fitting
  pub decoded : Decoded number reception message transmitted answer returned transmitted'

-- "And the returned messages of any two decodable receptions, of one setting and length and alike through the end of that window, have the same blocks
-- 0 to j, whatever stands after the window in either."
abbrev pub ReturnedMessagesAgree : Type 0
ReturnedMessagesAgree = (number : ℕ) (v w message other : List ℕ) (j : ℕ) → Returned number v message → Returned number w other
    → length v ≡ length w → j < blocks_of (setting_of number) (length v)
    → take ((j + (setting_of number).m + 1) * (setting_of number).n) v ≡ take ((j + (setting_of number).m + 1) * (setting_of number).n) w
    → take ((j + 1) * (setting_of number).k) message ≡ take ((j + 1) * (setting_of number).k) other
