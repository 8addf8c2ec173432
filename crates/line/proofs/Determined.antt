-- Answering's promise leaves nothing open: one output line, one length, one content of each area (from decoding's promise, which leaves nothing open).
-- Holds: `text_determined`, of the output line; `shown_determined`, of the output area; `left_determined`, of the working areas; `line_determined`.
use mathlib.Core.Path.{◌≡◌, sym, ap, ap₂, ◌∙◌}
use mathlib.Core.List.{List}
use Prim.Native.Nat.{ℕ}
use lib.Dec.{leb}
use lib.ListN.{length}
use Rattle.algebra.specs.Ops.{pick}
use Rattle.algebra.proofs.Tests.{false_not_true}
use Rattle.area.specs.Lists.{overwritten}
use Rattle.code.specs.Settings.{setting_of}
use Rattle.code.proofs.Settings.{sound_of}
use Rattle.question.specs.declared.answer.Answer.{Answer}
use Rattle.question.proofs.Questions.{all_yes}
use Rattle.link.proofs.Determined.{frame_determined, decoded_determined}
use Rattle.line.specs.Heads.{setting_in, blocks_in, symbols_in}
use Rattle.line.specs.Questions.{line_questions}
use Rattle.line.specs.Answering.{output_line, Answers, refused, well_formed, AnswerShown, LineAreas, line_areas, FrameLeft}
use Rattle.line.specs.Answering.{no_frame, no_room, decoded, LineDetermined}

module _ (line : List ℕ) where
  -- The output line: the first "no", or what question 7 says.
  pub text_determined : {text other : List ℕ} → Answers line text → Answers line other → text ≡ other
  text_determined (refused h e) (refused k f) = e ∙ sym f
  text_determined (refused h e) (well_formed k s y z G f) = absurd (h k)
  text_determined (well_formed h r x y F e) (refused k f) = absurd (k h)
  text_determined (well_formed h r x y F e) (well_formed k s x' y' G f) =
      let sound = sound_of (setting_in line) (all_yes (line_questions line) tt h).1.1.0 in
      let one = frame_determined (setting_of (setting_in line)) sound (blocks_in line) (symbols_in line) F G in
      e ∙ (ap₂ (output_line line) one.0 one.1 ∙ sym f)

  -- The output area and the length, in whatever area.
  pub shown_determined : (before : List ℕ) {r s : ℕ} {after other : List ℕ} → AnswerShown line before r after → AnswerShown line before s other
      → (r ≡ s) × (after ≡ other)
  shown_determined before A B =
      let one = text_determined A.answers B.answers in (
        A.shown.long ∙ (ap (λ (t : List ℕ). pick (leb (length t) (length before)) (length t) 0) one ∙ sym B.shown.long),
        A.shown.area ∙ (ap (λ (t : List ℕ). pick (leb (length t) (length before)) (overwritten t before) before) one ∙ sym B.shown.area),
      )

  -- The working areas, where the line's frame was decoded.
  pub left_determined : (w : LineAreas) {a b : Answer} {w' other : LineAreas} → FrameLeft line w a w' → FrameLeft line w b other → w' ≡ other
  left_determined w A B =
      let one = decoded_determined (setting_in line) (symbols_in line) w.message w.transmission _ _ _ _ _ _ A.decoded B.decoded in
      ap₂ (λ (f : List ℕ → LineAreas) (t : List ℕ). f t) (ap₂ line_areas (A.symbols ∙ sym B.symbols) one.1) one.2

-- A whole call: only one of the three cases can be.
pub line_determined : LineDetermined
line_determined line w output r s w' other output' other_output (no_frame h shown e) (no_frame k again f) =
    let one = shown_determined line output shown again in (one.0, e ∙ sym f, one.1)
line_determined line w output r s w' other output' other_output (no_frame h shown e) (no_room k none z o f) = absurd (h k)
line_determined line w output r s w' other output' other_output (no_frame h shown e) (decoded k room a left again) = absurd (h k)
line_determined line w output r s w' other output' other_output (no_room h none z o e) (no_frame k shown f) = absurd (k h)
line_determined line w output r s w' other output' other_output (no_room h none z o e) (no_room k none' y n f) = (z ∙ sym y, e ∙ sym f, o ∙ sym n)
line_determined line w output r s w' other output' other_output (no_room h none z o e) (decoded k room a left shown) = absurd (false_not_true (sym none ∙ room))
line_determined line w output r s w' other output' other_output (decoded h room a left shown) (no_frame k again f) = absurd (k h)
line_determined line w output r s w' other output' other_output (decoded h room a left shown) (no_room k none z o f) = absurd (false_not_true (sym none ∙ room))
line_determined line w output r s w' other output' other_output (decoded h room a left shown) (decoded k room' b left' again) =
    let one = shown_determined line output shown again in (one.0, left_determined line w left left', one.1)
