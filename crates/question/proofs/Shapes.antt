-- What a call knows from its questions' outcome, of the shape that they found.
-- Holds: of an outcome `asked_yes`, `refusal_numbered`; of a shape `reception_setting`, `reception_long`, `reception_blocks`, `message_setting`,
-- `message_blocks`; of what is asked after the shape was found `after_frame`, `after_count`, `after_woven`; of a call whose questions got "yes" `DecodingKnown`,
-- `EncodingKnown`, `decoding_known`, `encoding_known`, `weaving_known`, `woven_decoding_known`.
use mathlib.Core.Path.{◌≡◌, sym, ap, subst, ◌∙◌}
use mathlib.Core.Bool.{true}
use mathlib.Core.List.{List, ◌++◌}
use Prim.Native.Nat.{ℕ, ◌+◌, ◌*◌, ◌/◌, ◌%◌, ◌≤◌}
use native.Mathlib.Nat.{mul-div_cancel, mul_comm}
use native.Mathlib.Omega.{arith}
use lib.Dec.{T as Passes}
use lib.ListN.{length}
use borrow.Author.Tests.{le-leb, eq-eqb}
use Rattle.code.specs.parts.Residual.{frame_length}
use Rattle.code.specs.declared.Setting.{Setting}
use Rattle.code.specs.declared.SettingNumber.{SettingNumber}
use Rattle.code.specs.Settings.{is_setting, setting_of}
use Rattle.code.specs.parts.SettingNumbers.{number_of as number_of_setting, parameters_of}
use Rattle.code.specs.Windows.{Message}
use Rattle.code.proofs.Settings.{Sizes, number_known, sizes_of_number}
use Rattle.question.specs.declared.answer.Answer.{Answer}
use Rattle.question.specs.declared.refusal.Refusal.{Refusal}
use Rattle.question.specs.declared.refusal.Refusal.TheVariants.{UnknownSetting, FrameLength, TooManyBlocks, NoSymbol, MessageRoom, TransmissionRoom, NoneFits}
use Rattle.question.specs.declared.refusal.Refusal.TheVariants.{MessageLength, WrongCharacter, LineLength, LineTooLong, NoWindow, LengthsDiffer, FrameCount}
use Rattle.question.specs.declared.refusal.Refusal.TheVariants.{UnevenFrames}
use Rattle.question.specs.declared.shape.Shape.{Shape}
use Rattle.question.specs.declared.shape.WovenShape.{WovenShape}
use Rattle.question.specs.Questions.{Question, answer, first_no, blocks_of, most_frames, length_questions, frame_questions, area_questions}
use Rattle.question.specs.Questions.{decoding_questions, encoding_questions}
use Rattle.question.specs.Questions.{woven_questions, weaving_questions, woven_decoding_questions}
use Rattle.question.specs.Refusals.{number_of}
use Rattle.question.specs.parts.Shapes.{ReceptionOf, MessageOf, WovenOf}
use Rattle.question.proofs.Questions.{true_of, append_yes, shares, woven_decoding_later}
use Rattle.question.proofs.Questions.{decoding_yes, encoding_yes, weaving_yes, woven_decoding_yes}

-- The outcome "yes" says that every question got it.
pub asked_yes : {a : Answer} → answer 0 0 ≡ a → a.number ≡ 0
asked_yes e = sym (ap (λ (t : Answer). t.number) e)

-- A refusal says that one got "no".
pub refusal_numbered : (e : Refusal) → number_of e ≡ 0 → ⊥
refusal_numbered UnknownSetting h = omega arith
refusal_numbered FrameLength h = omega arith
refusal_numbered TooManyBlocks h = omega arith
refusal_numbered (NoSymbol place) h = omega arith
refusal_numbered MessageRoom h = omega arith
refusal_numbered TransmissionRoom h = omega arith
refusal_numbered NoneFits h = omega arith
refusal_numbered MessageLength h = omega arith
refusal_numbered (WrongCharacter place) h = omega arith
refusal_numbered LineLength h = omega arith
refusal_numbered LineTooLong h = omega arith
refusal_numbered NoWindow h = omega arith
refusal_numbered LengthsDiffer h = omega arith
refusal_numbered FrameCount h = omega arith
refusal_numbered UnevenFrames h = omega arith

-- The shape of a reception: its parameters are those of the setting with this number, and its T is that of the length.
module _ {number long : ℕ} {s : Shape} (r : ReceptionOf number long s) where
  pub reception_setting : parameters_of s.setting ≡ setting_of number
  reception_setting = ap setting_of r.numbered

  pub reception_long : long ≡ frame_length (parameters_of s.setting) s.blocks
  reception_long = r.blocks ∙ ap (λ (p : Setting). frame_length p s.blocks) (sym reception_setting)

  pub reception_blocks : s.blocks ≡ blocks_of (setting_of number) long
  reception_blocks =
      let p = setting_of number in
      let sizes : Sizes p = subst Sizes reception_setting (sizes_of_number s.setting) in
      let all : long / p.n ≡ s.blocks + p.m = ap (λ (t : ℕ). t / p.n) r.blocks ∙ mul-div_cancel (s.blocks + p.m) sizes.symbols in
      omega arith

-- What is asked of the shape after questions 1, 2 and 3 got "yes".
pub after_frame : {number long : ℕ} {s : Shape} (later : Setting → ℕ → List Question) → ReceptionOf number long s
    → answer 0 0 ≡ first_no (frame_questions number long)
    → first_no (later (parameters_of s.setting) s.blocks) ≡ first_no (frame_questions number long ++ later (setting_of number) (blocks_of (setting_of number) long))
after_frame {number} {long} {s} later r asked =
    let p = setting_of number in
    ap (λ (t : Setting). first_no (later t s.blocks)) (reception_setting r)
    ∙ ap (λ (t : ℕ). first_no (later p t)) (reception_blocks r)
    ∙ sym (append_yes (frame_questions number long) (later p (blocks_of p long)) tt (asked_yes asked))

-- What is asked of one of the woven frames after questions 1, 14 and 15 got "yes".
pub after_count : (s : SettingNumber) (number D long : ℕ) → number_of_setting s ≡ number → 2 ≤ D → D ≤ most_frames → long % D ≡ 0
    → first_no (length_questions (parameters_of s) (long / D)) ≡ first_no (woven_questions number D long)
after_count s number D long known least few whole =
    let one : is_setting number ≡ true = true_of _ (subst (λ (t : ℕ). Passes (is_setting t)) known (number_known s)) in
    ap (λ (t : ℕ). first_no (length_questions (setting_of t) (long / D))) known
    ∙ sym (simp (one, le-leb _ _ least, le-leb _ _ few, eq-eqb _ _ whole))

-- What is asked of one of the woven frames, with its share of the room, after 1, 14, 15, 2 and 3.
pub after_woven : {number frames : ℕ} {w : WovenShape} (reception : List ℕ) (message_room transmission_room : ℕ) → WovenOf number frames (length reception) w
    → answer 0 0 ≡ first_no (woven_questions number frames (length reception))
    → first_no
    (area_questions (parameters_of w.frame.setting) w.frame.blocks reception (message_room / w.frames) (transmission_room / w.frames))
    ≡ first_no (woven_decoding_questions number frames reception message_room transmission_room)
after_woven {number} {frames} {w} reception message_room transmission_room r asked =
    let p = setting_of number in
    let areas : Setting → ℕ → ℕ → List Question = λ q T D. area_questions q T reception (message_room / D) (transmission_room / D) in
    let some : 1 ≤ frames = omega (arith, r.count, w.several) in
    ap (λ (t : Setting). first_no (areas t w.frame.blocks w.frames)) (reception_setting r.frame)
    ∙ ap (λ (t : ℕ). first_no (areas p t w.frames)) (reception_blocks r.frame)
    ∙ ap (λ (t : ℕ). first_no (areas p (blocks_of p (length reception / frames)) t)) r.count
    ∙ shares frames reception message_room transmission_room p some
    ∙ sym
    (append_yes (woven_questions number frames (length reception)) (woven_decoding_later frames reception message_room transmission_room p) tt
    (asked_yes asked))

-- The shape of the frame of a message.
module _ {number long : ℕ} {s : Shape} (r : MessageOf number long s) where
  pub message_setting : parameters_of s.setting ≡ setting_of number
  message_setting = ap setting_of r.numbered

  pub message_blocks : s.blocks ≡ long / (setting_of number).k
  message_blocks =
      let sizes : Sizes (setting_of number) = subst Sizes message_setting (sizes_of_number s.setting) in
      sym (ap (λ (t : ℕ). t / (setting_of number).k) r.blocks ∙ mul-div_cancel s.blocks sizes.information)

-- What decoding knows of the shape that it found.
pub record DecodingKnown (s : Shape) (reception : List ℕ) (message_room transmission_room : ℕ) : Type 0 where
  pub long : length reception ≡ frame_length (parameters_of s.setting) s.blocks
  pub has_message_room : s.blocks * (parameters_of s.setting).k ≤ message_room
  pub has_transmission_room : frame_length (parameters_of s.setting) s.blocks ≤ transmission_room

pub decoding_known : {number : ℕ} {s : Shape} (reception : List ℕ) (message_room transmission_room : ℕ) → ReceptionOf number (length reception) s
    → answer 0 0 ≡ first_no (decoding_questions number reception message_room transmission_room) → DecodingKnown s reception message_room transmission_room
decoding_known {number} {s} reception message_room transmission_room r asked =
    let yes = decoding_yes number reception message_room transmission_room (asked_yes asked) in
    let p = reception_setting r in
    let T = reception_blocks r in
    record {
      long = reception_long r;
      has_message_room =
          subst (λ (p : Setting). s.blocks * p.k ≤ message_room) (sym p)
          (subst (λ (t : ℕ). t * (setting_of number).k ≤ message_room) (sym T) yes.has_message_room);
      has_transmission_room =
          subst (λ (p : Setting). frame_length p s.blocks ≤ transmission_room) (sym p)
          (subst (λ (t : ℕ). frame_length (setting_of number) t ≤ transmission_room) (sym T) yes.has_transmission_room);
    }

-- What encoding knows of the shape that it found.
pub record EncodingKnown (s : Shape) (message : List ℕ) (transmission_room : ℕ) : Type 0 where
  pub message_of : Message (parameters_of s.setting) s.blocks message
  pub room : frame_length (parameters_of s.setting) s.blocks ≤ transmission_room

pub encoding_known : {number : ℕ} {s : Shape} (message : List ℕ) (transmission_room : ℕ) → MessageOf number (length message) s
    → answer 0 0 ≡ first_no (encoding_questions number message transmission_room) → EncodingKnown s message transmission_room
encoding_known {number} {s} message transmission_room r asked =
    let yes = encoding_yes number message transmission_room (asked_yes asked) in
    let p = message_setting r in
    let T = message_blocks r in
    record {
      message_of =
          subst (λ (p : Setting). Message p s.blocks message) (sym p)
          (subst (λ (t : ℕ). Message (setting_of number) t message) (sym T) yes.message_of);
      room =
          subst (λ (p : Setting). frame_length p s.blocks ≤ transmission_room) (sym p)
          (subst (λ (t : ℕ). frame_length (setting_of number) t ≤ transmission_room) (sym T) yes.room);
    }

-- Woven frames of the shape that was found.
woven_long : {number frames long : ℕ} {w : WovenShape} → WovenOf number frames long w
    → long ≡ w.frames * frame_length (parameters_of w.frame.setting) w.frame.blocks
woven_long {number} {frames} {long} {w} r =
    let one = reception_long r.frame in
    let p = parameters_of w.frame.setting in
    r.whole ∙ ap (λ (t : ℕ). t * frames) one ∙ ap (λ (t : ℕ). frame_length p w.frame.blocks * t) (sym r.count) ∙ mul_comm _ _

pub weaving_known : {number frames : ℕ} {w : WovenShape} (incoming : List ℕ) (room : ℕ) → WovenOf number frames (length incoming) w
    → answer 0 0 ≡ first_no (weaving_questions number frames incoming room)
    → (length incoming ≡ w.frames * frame_length (parameters_of w.frame.setting) w.frame.blocks) × (length incoming ≤ room)
weaving_known {number} {frames} {w} incoming room r asked =
    (woven_long r, (weaving_yes number frames incoming room (asked_yes asked)).1.1)

pub woven_decoding_known : {number frames : ℕ} {w : WovenShape} (reception : List ℕ) (message_room transmission_room : ℕ)
    → WovenOf number frames (length reception) w
    → answer 0 0 ≡ first_no (woven_decoding_questions number frames reception message_room transmission_room)
    → (length reception ≡ w.frames * frame_length (parameters_of w.frame.setting) w.frame.blocks)
    × (w.frames * (w.frame.blocks * (parameters_of w.frame.setting).k) ≤ message_room)
    × (w.frames * frame_length (parameters_of w.frame.setting) w.frame.blocks ≤ transmission_room)
woven_decoding_known {number} {frames} {w} reception message_room transmission_room r asked =
    let yes = woven_decoding_yes number frames reception message_room transmission_room (asked_yes asked) in
    let p = reception_setting r.frame in
    let T = reception_blocks r.frame in (
      woven_long r,
      subst (λ (D : ℕ). D * (w.frame.blocks * (parameters_of w.frame.setting).k) ≤ message_room) (sym r.count)
          (subst (λ (p : Setting). frames * (w.frame.blocks * p.k) ≤ message_room) (sym p)
          (subst (λ (t : ℕ). frames * (t * (setting_of number).k) ≤ message_room) (sym T) yes.has_message_room)),
      subst (λ (D : ℕ). D * frame_length (parameters_of w.frame.setting) w.frame.blocks ≤ transmission_room) (sym r.count)
          (subst (λ (p : Setting). frames * frame_length p w.frame.blocks ≤ transmission_room) (sym p)
          (subst (λ (t : ℕ). frames * frame_length (setting_of number) t ≤ transmission_room) (sym T) yes.has_transmission_room)),
    )
