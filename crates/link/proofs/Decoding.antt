-- From what reading a frame promises to what decoding promises.
-- Holds: `restored_more`; `answered_read`, `answered_none`, `answered_frame`, `decoded_found`, `decoded_none`; `read_message`, `read_long`, `read_known`, `read_residual`,
-- `read_restored`; `decoded_asked`; `whole_part`,
-- `decoded_alone`, `frame_alone`, in areas of just the right sizes.
use mathlib.Core.Path.{◌≡◌, sym, ap, ap₂, subst, ◌∙◌}
use mathlib.Core.Bool.{Bool, true, false}
use mathlib.Core.List.{List, ◌++◌, append-nil}
use Prim.Native.Nat.{ℕ, ◌+◌, ◌*◌, ◌≤◌, ◌<◌}
use native.Mathlib.Omega.{arith}
use lib.Dec.{T as Passes}
use lib.ListN.{length, get_or, drop, set, replicate, length-set, drop_of_length-le}
use lib.Seq.{ext_get_or, get_or-set_other}
use Rattle.algebra.specs.Ops.{sub}
use Rattle.algebra.proofs.Tests.{false_not_true}
use Rattle.area.proofs.Lists.{stored}
use Rattle.field.specs.Fields.{ops_of}
use Rattle.field.specs.Symbols.{Symbols}
use Rattle.code.specs.parts.Residual.{frame_length}
use Rattle.code.specs.declared.Setting.{Setting}
use Rattle.code.specs.Settings.{is_setting, setting_of}
use Rattle.code.specs.parts.SettingNumbers.{parameters_of}
use Rattle.code.specs.parts.Sound.{Sound}
use Rattle.code.specs.Windows.{transmission, known_distance, unknown_symbols, unknown_in, Message}
use Rattle.code.proofs.CodeBelow.{transmission_length}
use Rattle.code.proofs.Cost.{all_known}
use Rattle.question.specs.declared.answer.Answer.{Answer}
use Rattle.question.specs.declared.shape.Shape.{Shape}
use Rattle.std.specs.List.{AllPass}
use Rattle.question.specs.Questions.{answer, counted, is_received, first_no, blocks_of, decoding_questions}
use Rattle.question.specs.parts.Shapes.{ReceptionOf}
use Rattle.question.proofs.Questions.{FrameShape, decoding_all_yes}
use Rattle.question.proofs.Shapes.{asked_yes, reception_setting, reception_blocks}
use Rattle.weave.specs.parts.Columns.{column_of}
use Rattle.weave.proofs.Weaving.{column_one}
use Rattle.frame.specs.parts.Frame.{FrameRead, fits, none}
use Rattle.frame.proofs.Ends.{end_altered, end_back, end_known}
use Rattle.link.specs.parts.Restoring.{FrameAnswered, read, none_read, ReadFrom, Restored}
use Rattle.link.specs.Decoding.{FrameDecoded, found, none_fits, Decoded, refused, well_formed}

module _ (q : ℕ) (reception before : List ℕ) where
  pub restored_more : (i : ℕ) (after : List ℕ) (v : ℕ) → Restored q i reception before after → i < length before
      → v ≡ sub (ops_of q) (get_or reception i 0) (get_or after i 0) → Restored q (i + 1) reception before (set after i v)
  restored_more i after v R l e =
      let least : i ≤ i = omega arith in
      record {
        long = length-set after i v ∙ R.long;
        inside = stored after (λ a. a) (λ a. sub (ops_of q) (get_or reception a 0) (get_or before a 0)) i v (omega (arith, R.long))
            (e ∙ ap (sub (ops_of q) (get_or reception i 0)) (R.outside i least)) (λ a h s. absurd (omega arith)) R.inside;
        outside = λ a h. get_or-set_other after i a v 0 (omega arith) ∙ R.outside a (omega arith);
      }

not_seven : {a : Answer} → a ≡ answer 7 0 → a.number ≡ 0 → ⊥
not_seven e z = let both : ◌≡◌ {A = ℕ} 7 0 = ap (λ (t : Answer). t.number) (sym e) ∙ z in omega arith

module _ {p : Setting} {T : ℕ} {reception message residual : List ℕ} where
  -- What the frame's reader found, as an answer..
  pub answered_read : {r : Bool} {altered unknown : ℕ} → FrameRead p T reception message residual r → r ≡ true
      → altered ≡ known_distance p.q (T * p.n) (λ i. get_or residual i 0) (λ i. 0) → unknown ≡ unknown_in p T reception
      → FrameAnswered p T reception (counted altered unknown) message residual
  answered_read (fits F long is_residual) h kept lost = read (fits F long is_residual) (ap₂ counted kept lost)
  answered_read (none far) h kept lost = absurd (false_not_true h)

  pub answered_none : {r : Bool} {a : Answer} {cleared emptied : List ℕ} → FrameRead p T reception message residual r → r ≡ false → a ≡ answer 7 0
      → cleared ≡ replicate (T * p.k) 0 → emptied ≡ replicate (frame_length p T) 0 → FrameAnswered p T reception a cleared emptied
  answered_none (fits F long is_residual) h e f g = absurd (false_not_true (sym h))
  answered_none (none far) h e f g = none_read far e f g

  -- .. and what an answer says: 0, and the message was read; or another number, and no message fits.
  module _ {a : Answer} where
    pub answered_frame : FrameAnswered p T reception a message residual → a.number ≡ 0 → FrameRead p T reception message residual true
    answered_frame (read F e) h = F
    answered_frame (none_read far e f g) h = absurd (not_seven e h)

    pub decoded_none : FrameAnswered p T reception a message residual → (a.number ≡ 0 → ⊥) → FrameDecoded p T reception a message residual
    decoded_none (read F e) h = absurd (h (ap (λ (t : Answer). t.number) e))
    decoded_none (none_read far e f g) h = none_fits far e f g

    pub decoded_found : Sound p → {sent : List ℕ} → FrameAnswered p T reception a message residual → a.number ≡ 0 → sent ≡ transmission p message
        → FrameDecoded p T reception a message sent
    decoded_found S (none_read far e f g) h is = absurd (not_seven e h)
    decoded_found S (read (fits F long is_residual) e) h is =
        found F (e ∙ ap (λ (t : ℕ). counted t (unknown_in p T reception)) (sym (end_altered p S T reception message residual F.message_of is_residual))) is

  -- The message that was read, and what is left where nothing is unknown: that is all symbols, and the reception less it is the transmission.
  module _ {unknown : ℕ} where
    pub read_message : ReadFrom p T unknown reception message residual → Message p T message
    read_message R = of R.read
      where
        of : FrameRead p T reception message residual true → Message p T message
        of (fits F long is_residual) = F.message_of

    pub read_long : ReadFrom p T unknown reception message residual → length residual ≡ frame_length p T
    read_long R = of R.read
      where
        of : FrameRead p T reception message residual true → length residual ≡ frame_length p T
        of (fits F long is_residual) = long ∙ R.long

    pub read_known : ReadFrom p T unknown reception message residual → unknown ≡ 0 → Symbols p.q reception
    read_known R whole =
        record {
          below = all_known p.q (length reception) (λ i. get_or reception i 0)
              (ap (λ (t : ℕ). unknown_symbols p.q t (λ i. get_or reception i 0)) R.long ∙ sym R.lost ∙ whole);
        }

    pub read_residual : Sound p → ReadFrom p T unknown reception message residual → unknown ≡ 0 → Symbols p.q residual
    read_residual S R whole = of R.read
      where
        of : FrameRead p T reception message residual true → Symbols p.q residual
        of (fits F long is_residual) =
            end_known p S T reception message residual F.message_of is_residual (read_known R whole) (long ∙ R.long)

    pub read_restored : Sound p → {restored : List ℕ} → ReadFrom p T unknown reception message residual → unknown ≡ 0
        → Restored p.q (length residual) reception residual restored → restored ≡ transmission p message
    read_restored S {restored} R whole back = of R.read
      where
        of : FrameRead p T reception message residual true → restored ≡ transmission p message
        of (fits F long is_residual) =
            let all = read_known R whole in
            ext_get_or 0 restored (transmission p message) (back.long ∙ (long ∙ (R.long ∙ sym (transmission_length p S T message F.message_of))))
            (λ i l. back.inside i (omega (arith, back.long))
            ∙ end_back p S T reception message residual F.message_of is_residual i (omega (arith, back.long, long, R.long))
            (all.below i (omega (arith, back.long, long))))

-- A reception of the shape that the questions found. Alone it is one woven frame.
pub decoded_asked : (number : ℕ) (reception message transmitted : List ℕ) {s : Shape} → ReceptionOf number (length reception) s
    → answer 0 0 ≡ first_no (decoding_questions number reception (length message) (length transmitted)) → {short long : ℕ}
    → short ≡ s.blocks * (parameters_of s.setting).k → long ≡ frame_length (parameters_of s.setting) s.blocks
    → {r : Answer} {front sent : List ℕ} → FrameDecoded (parameters_of s.setting) s.blocks (column_of 1 0 reception) r front sent
    → Decoded number reception message transmitted r (front ++ drop short message) (sent ++ drop long transmitted)
decoded_asked number reception message transmitted {s} shape asked {short} {long} e e' {r} {front} {sent} frame =
    let known = reception_setting shape in
    let count = reception_blocks shape in
    let q = setting_of number in
    well_formed (asked_yes asked)
    (record {
      message_part = front;
      transmission_part = sent;
      decoded =
          subst (λ (t : ℕ). FrameDecoded q t reception r front sent) count
          (subst (λ (p : Setting). FrameDecoded p s.blocks reception r front sent) known
          (subst (λ (l : List ℕ). FrameDecoded (parameters_of s.setting) s.blocks l r front sent) (column_one reception) frame));
      message_area =
          ap (λ (t : ℕ). front ++ drop t message) (e ∙ ap (λ (p : Setting). s.blocks * p.k) known ∙ ap (λ (t : ℕ). t * q.k) count);
      transmission_area =
          ap (λ (t : ℕ). sent ++ drop t transmitted)
          (e' ∙ ap (λ (p : Setting). frame_length p s.blocks) known ∙ ap (frame_length q) count);
    })

-- Nothing of an area lies past a part of its size.
pub whole_part : (part before : List ℕ) (size : ℕ) → length before ≡ size → part ≡ part ++ drop size before
whole_part part before size e =
    let none : length before ≤ size = omega arith in
    sym (ap (λ (l : List ℕ). part ++ l) (drop_of_length-le before none) ∙ append-nil part)

-- With areas of just the sizes that the message and its transmission take, decoding is question 7: from there to decoding's promise, and back.
module _ (number : ℕ) (reception message transmitted : List ℕ) (known : Passes (is_setting number)) (frame : FrameShape (setting_of number) (length reception))
    (received : AllPass (is_received (setting_of number).q) reception) (short : length message ≡ blocks_of (setting_of number) (length reception) * (setting_of number).k)
    (long : length transmitted ≡ frame_length (setting_of number) (blocks_of (setting_of number) (length reception))) where
  all_yes_alone : (first_no (decoding_questions number reception (length message) (length transmitted))).number ≡ 0
  all_yes_alone = decoding_all_yes number reception (length message) (length transmitted) known frame received (omega (arith, short)) (omega (arith, long))

  pub decoded_alone : {r : Answer} {message' transmitted' : List ℕ}
      → FrameDecoded (setting_of number) (blocks_of (setting_of number) (length reception)) reception r message' transmitted'
      → Decoded number reception message transmitted r message' transmitted'
  decoded_alone {message' = message'} {transmitted' = transmitted'} F = well_formed all_yes_alone
      (record {
        message_part = message';
        transmission_part = transmitted';
        decoded = F;
        message_area = whole_part message' message _ short;
        transmission_area = whole_part transmitted' transmitted _ long;
      })

  pub frame_alone : {r : Answer} {message' transmitted' : List ℕ} → Decoded number reception message transmitted r message' transmitted'
      → FrameDecoded (setting_of number) (blocks_of (setting_of number) (length reception)) reception r message' transmitted'
  frame_alone (refused h e m t) = absurd (h all_yes_alone)
  frame_alone {r} {message'} {transmitted'} (well_formed h D) =
      let p = setting_of number in
      let T = blocks_of p (length reception) in
      subst (λ (l : List ℕ). FrameDecoded p T reception r l transmitted') (whole_part D.message_part message _ short ∙ sym D.message_area)
      (subst (FrameDecoded p T reception r D.message_part) (whole_part D.transmission_part transmitted _ long ∙ sym D.transmission_area) D.decoded)
