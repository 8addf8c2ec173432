-- Demand 3, third sentence, about what decoding calls returned, as specs/Demand3 states it.
-- Holds: `Front`, `front_fits` (what a call on a decodable reception leaves in the message area); `returned_messages_agree`.
use mathlib.Core.Path.{◌≡◌, sym, ap, subst, ◌∙◌}
use mathlib.Core.List.{List, ◌++◌}
use Prim.Native.Nat.{ℕ, ◌+◌, ◌*◌, ◌≤◌}
use native.Mathlib.Nat.{mul-le-mul_right}
use native.Mathlib.Omega.{arith}
use lib.ListN.{length, take, drop}
use lib.Seq.{take-append-le}
use Rattle.code.specs.declared.Setting.{Setting}
use Rattle.code.specs.Settings.{setting_of}
use Rattle.code.specs.Windows.{Fits}
use Rattle.code.proofs.Settings.{sound_of}
use Rattle.code.proofs.Demand3.{independent_of_later_blocks}
use Rattle.question.specs.declared.answer.Answer.{Answer}
use Rattle.question.specs.Questions.{first_no, blocks_of, decoding_questions}
use Rattle.question.proofs.Questions.{decoding_yes}
use Rattle.link.specs.Decoding.{FrameDecoded, found, none_fits, Decoded, refused, well_formed}
use Rattle.link.specs.Demand3.{Returned, ReturnedMessagesAgree}

-- A message that fits stands at the front of its area.
record Front (number : ℕ) (reception area : List ℕ) : Type 0 where
  message : List ℕ
  fits : Fits (setting_of number) (blocks_of (setting_of number) (length reception)) reception message
  rest : List ℕ
  is : area ≡ message ++ rest

-- Where some message fits, question 7's answer is one that fits.
decodable_found : (p : Setting) (T : ℕ) (reception x : List ℕ) {r : Answer} {message sent : List ℕ} → Fits p T reception x
    → FrameDecoded p T reception r message sent
    → Fits p T reception message
decodable_found p T reception x F (found G e t) = G
decodable_found p T reception x F (none_fits far e m t) = absurd (far x F)

front_fits : (number : ℕ) (reception message transmitted : List ℕ) {r : Answer} {message' transmitted' : List ℕ}
    → (first_no (decoding_questions number reception (length message) (length transmitted))).number ≡ 0
    → (x : List ℕ) → Fits (setting_of number) (blocks_of (setting_of number) (length reception)) reception x
    → Decoded number reception message transmitted r message' transmitted' → Front number reception message'
front_fits number reception message transmitted asked x F (refused h e m t) = absurd (h asked)
front_fits number reception message transmitted asked x F (well_formed h D) =
    record {
      message = D.message_part;
      fits = decodable_found (setting_of number) (blocks_of (setting_of number) (length reception)) reception x F D.decoded;
      rest = drop (blocks_of (setting_of number) (length reception) * (setting_of number).k) message;
      is = D.message_area;
    }

front : {number : ℕ} {reception returned : List ℕ} → Returned number reception returned → Front number reception returned
front {number} {reception} R = front_fits number reception R.message R.transmitted R.well_formed R.fitting R.decodable R.decoded

pub returned_messages_agree : ReturnedMessagesAgree
returned_messages_agree number v w message other j R Q same l alike =
    let p = setting_of number in
    let a = front R in
    let b = front Q in
    let T = blocks_of p (length v) in
    let fits_b : Fits p T w b.message = subst (λ (t : ℕ). Fits p (blocks_of p t) w b.message) (sym same) b.fits in
    let top : j + 1 ≤ T = omega arith in
    let room : (j + 1) * p.k ≤ T * p.k = mul-le-mul_right p.k top in
    let S = sound_of number (decoding_yes number v (length R.message) (length R.transmitted) R.well_formed).setting in
    ap (take ((j + 1) * p.k)) a.is
    ∙ (take-append-le ((j + 1) * p.k) a.message a.rest (omega (arith, a.fits.message_of.long))
    ∙ (independent_of_later_blocks p S T v w a.message b.message j a.fits fits_b l alike
    ∙ (sym (take-append-le ((j + 1) * p.k) b.message b.rest (omega (arith, fits_b.message_of.long)))
    ∙ ap (take ((j + 1) * p.k)) (sym b.is))))
