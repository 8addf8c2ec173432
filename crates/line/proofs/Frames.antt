-- The frame of a line that holds one (questions 11, 9, 1, 3 and 10 got "yes"), from decoding to the line's answer.
-- Holds: `symbols_count`, `symbols_read`, `symbols_long`, `blocks_is` (the reception and T); `decoding_asked` (decoding's questions ask what is left, 4);
-- `refusal_line`; `frame_answered` (what decoding gives); `any_room`, `room_is` (the working areas); `shape_message`, `shape_most`; `frame_left`, `frame_said`;
-- `most_answer_lem`, `answers_most`, `answers_room`, `answers_sevenfold` (an output line's length); `answered_shown` (with room for every frame);
-- `answers_kept` (a line too long is answered by its beginning).
use mathlib.Core.Path.{◌≡◌, refl, sym, ap, ap₂, subst, ◌∙◌}
use mathlib.Core.Bool.{Bool, true, false, ◌&&◌}
use mathlib.Core.List.{List, [], ◌∷◌, ◌++◌, map}
use Prim.Native.Nat.{ℕ, ◌+◌, ◌-◌, ◌*◌, ◌/◌, ◌%◌, ◌≤◌, ◌<◌}
use native.Mathlib.Nat.{mul-le-mul, mul-le-mul_right, le_trans, lt_of_lt_of_le}
use native.Mathlib.Omega.{arith}
use native.Mathlib.Decide.{dec_le}
use lib.Arith.{digits_div, digits_mod}
use lib.Dec.{T as Passes, eqb, leb, lit≤, leb→le}
use lib.ListN.{length, take, drop, length-map, length-drop}
use lib.Seq.{length-take-le, take_at, take_all}
use borrow.Author.Tests.{eq-eqb, ne_eqb, le-leb, lt-leb}
use Rattle.algebra.specs.Ops.{pick}
use Rattle.algebra.proofs.Tests.{and_left, and_right, false_not_true}
use Rattle.field.specs.Symbols.{Symbols}
use Rattle.code.specs.declared.Setting.{Setting}
use Rattle.code.specs.Settings.{is_setting, setting_of}
use Rattle.code.specs.Windows.{window_length}
use Rattle.code.specs.parts.SettingNumbers.{number_of, parameters_of}
use Rattle.code.proofs.Settings.{sound_of, number_known, information_fits, Sizes, sizes_of, largest_of}
use Rattle.question.specs.declared.answer.Answer.{Answer}
use Rattle.question.specs.Questions.{Question, ask, answer, first_no, most_blocks, most_symbols, most_information, blocks_of, is_received}
use Rattle.question.specs.Questions.{symbol_question, transmission_question, frame_questions, decoding_questions}
use Rattle.question.proofs.Questions.{true_of, first_no_lem, append_yes, message_most, transmission_most}
use Rattle.link.specs.Decoding.{FrameDecoded, found, none_fits, DecodedIn, Decoded, refused as decoding_refused, well_formed as decoding_well_formed}
use Rattle.link.proofs.Determined.{parts_long, message_front}
use Rattle.line.specs.Characters.{digit_of}
use Rattle.line.specs.Heads.{form_in, head_length, Head, head_in, setting_in, blocks_in, symbols_in}
use Rattle.line.specs.Questions.{most_characters, HoldsFrame, line_questions}
use Rattle.line.specs.Answering.{refusal, success, output_line, message_length, message_in, Answers, refused, well_formed, AnswerShown, LineAreas}
use Rattle.line.specs.Answering.{line_areas, has_room, room_in, RoomForAll, FrameLeft, Answered, no_frame, no_room, decoded}
use Rattle.line.specs.declared.TheConstants.{MOST_ANSWER}
use Rattle.line.specs.declared.head.LineShape.{LineShape}
use Rattle.line.specs.parts.Frames.{FrameOf}
use Rattle.line.proofs.Forms.{form_known, length_most}
use Rattle.line.proofs.Asked.{HeadYes, blocks_few, head_yes, frame_first, after_head}
use Rattle.line.proofs.Placed.{refusal_long, success_long}

-- A frame of T+m blocks of n symbols.
whole_frame : (T m n : ℕ) → 0 < n → ((T + m) * n % n ≡ 0) × ((T + m) * n / n ≡ T + m)
whole_frame T m n positive =
    let none : (T + m) * n ≡ (T + m) * n + 0 = omega arith in
    (ap (λ (t : ℕ). t % n) none ∙ digits_mod (T + m) positive, ap (λ (t : ℕ). t / n) none ∙ digits_div (T + m) positive)

-- The characters that are read as symbols: those behind the head.
pub symbols_count : (line : List ℕ) → length (symbols_in line) ≡ length line - head_length (form_in line)
symbols_count line = let head = head_length (form_in line) in length-map (drop head line) digit_of ∙ length-drop head line

pub symbols_read : (line : List ℕ) {head : ℕ} → head ≡ head_length (form_in line) → map digit_of (take (length line - head) (drop head line)) ≡ symbols_in line
symbols_read line {head} e =
    ap (map digit_of) (take_all (length line - head) (drop head line) (omega (arith, length-drop head line)) ∙ ap (λ (t : ℕ). drop t line) e)

module _ (line : List ℕ) (yes : HeadYes line) where
  abbrev p : Setting
  p = setting_of (setting_in line)

  pub symbols_long : length (symbols_in line) ≡ (blocks_in line + p.m) * p.n
  symbols_long = symbols_count line ∙ yes.long

  sizes : Sizes p
  sizes = sizes_of (setting_in line) yes.setting

  pub blocks_is : blocks_of p (length (symbols_in line)) ≡ blocks_in line
  blocks_is =
      let blocks : length (symbols_in line) / p.n ≡ blocks_in line + p.m =
      ap (λ (t : ℕ). t / p.n) symbols_long ∙ (whole_frame (blocks_in line) p.m p.n sizes.symbols).1 in
      omega arith

  -- Questions 1 to 3 of decoding get "yes".
  frame_asked : first_no (frame_questions (setting_in line) (length (symbols_in line))) ≡ answer 0 0
  frame_asked =
      let long = length (symbols_in line) in
      let whole : long % p.n ≡ 0 = ap (λ (t : ℕ). t % p.n) symbols_long ∙ (whole_frame (blocks_in line) p.m p.n sizes.symbols).0 in
      let least : p.m + 1 ≤ blocks_in line + p.m = omega (arith, yes.blocks) in
      let room : window_length p ≤ long = omega (arith, symbols_long, mul-le-mul_right p.n least) in
      let few : blocks_of p long ≤ most_blocks = omega (arith, blocks_is, blocks_few yes) in
      three (is_setting (setting_in line)) (eqb (long % p.n) 0) (leb (window_length p) long) (leb (blocks_of p long) most_blocks)
      (true_of (is_setting (setting_in line)) yes.setting) (eq-eqb (long % p.n) 0 whole) (le-leb (window_length p) long room)
      (le-leb (blocks_of p long) most_blocks few)
    where
      three : (a b c d : Bool) → a ≡ true → b ≡ true → c ≡ true → d ≡ true → first_no (ask 1 a ∷ ask 2 (b && c) ∷ ask 3 d ∷ []) ≡ answer 0 0
      three a b c d ea eb ec ed = simp (ea, eb, ec, ed)

  -- Question 4 is what is left, where the areas have room for the frame.
  pub decoding_asked : (message_room transmission_room : ℕ) → message_length line ≤ message_room → length (symbols_in line) ≤ transmission_room
      → first_no (decoding_questions (setting_in line) (symbols_in line) message_room transmission_room)
      ≡ first_no (symbol_question (is_received p.q) (symbols_in line) ∷ [])
  decoding_asked message_room transmission_room m t =
      let T = blocks_of p (length (symbols_in line)) in
      let message : T * p.k ≤ message_room = subst (λ (t : ℕ). t * p.k ≤ message_room) (sym blocks_is) m in
      let sent : (T + p.m) * p.n ≤ transmission_room =
      subst (λ (t : ℕ). (t + p.m) * p.n ≤ transmission_room) (sym blocks_is) (subst (λ (t : ℕ). t ≤ transmission_room) symbols_long t) in
      append_yes (frame_questions (setting_in line) (length (symbols_in line)))
      (symbol_question (is_received p.q) (symbols_in line) ∷ ask 5 (leb (T * p.k) message_room) ∷ transmission_question p T transmission_room ∷ []) tt
      (ap (λ (a : Answer). a.number) frame_asked)
      ∙ last (symbol_question (is_received p.q) (symbols_in line)) (leb (T * p.k) message_room) (leb ((T + p.m) * p.n) transmission_room)
      (le-leb (T * p.k) message_room message)
      (le-leb ((T + p.m) * p.n) transmission_room sent)
    where
      last : (x : Question) (a b : Bool) → a ≡ true → b ≡ true → first_no (x ∷ ask 5 a ∷ ask 6 b ∷ []) ≡ first_no (x ∷ [])
      last x a b ea eb = simp (ea, eb)

-- The output line of a refusal.
pub refusal_line : (line : List ℕ) (r : Answer) (x : List ℕ) → (r.number ≡ 0 → ⊥) → output_line line r x ≡ refusal r
refusal_line line r x h = ap (λ (b : Bool). pick b (success r.altered (head_in line) x) (refusal r)) (ne_eqb r.number 0 h)

-- Decoding's answer to the line's symbols is the line's, and its message is what is written.
module _ (line : List ℕ) (holds : HoldsFrame line) where
  yes_of : HeadYes line
  yes_of = head_yes line holds

  abbrev setting : Setting
  setting = setting_of (setting_in line)

  same_answer : (message_room transmission_room : ℕ) → message_length line ≤ message_room → length (symbols_in line) ≤ transmission_room
      → first_no (decoding_questions (setting_in line) (symbols_in line) message_room transmission_room) ≡ first_no (line_questions line)
  same_answer message_room transmission_room m t = decoding_asked line yes_of message_room transmission_room m t ∙ sym (after_head line holds)

  -- Question 7 gives messages of symbols below 16.
  small_symbols : {r : Answer} {x y : List ℕ} → FrameDecoded setting (blocks_in line) (symbols_in line) r x y → r.number ≡ 0 → Symbols 16 x
  small_symbols (found f e t) z =
      record {
        below = λ i l. lt_of_lt_of_le (f.message_of.symbols.below i l)
            (le_trans (largest_of (λ p. p.q) (setting_in line) yes_of.setting) (lit≤ tt));
      }
  small_symbols (none_fits far e m t) z = absurd (head_long (ap (λ (a : Answer). a.number) (sym e) ∙ z))
    where
      head_long : ◌≡◌ {A = ℕ} 7 0 → ⊥
      head_long z = omega arith

  pub frame_answered : (message transmitted : List ℕ) (r : Answer) (message' transmitted' : List ℕ)
      → message_length line ≤ length message → length (symbols_in line) ≤ length transmitted
      → Decoded (setting_in line) (symbols_in line) message transmitted r message' transmitted'
      → Answers line (output_line line r (message_in line message')) × (r.number ≡ 0 → Symbols 16 (message_in line message'))
  frame_answered message transmitted r message' transmitted' m t (decoding_refused h e a b) =
      let same = same_answer (length message) (length transmitted) m t in
      let never : r.number ≡ 0 → ⊥ = λ z. h (ap (λ (a : Answer). a.number) (sym e) ∙ z) in (
        refused (λ z. h (ap (λ (a : Answer). a.number) same ∙ z)) (refusal_line line r (message_in line message') never ∙ ap refusal (e ∙ same)),
        λ z. absurd (never z),
      )
  frame_answered message transmitted r message' transmitted' m t (decoding_well_formed h D) =
      let same = same_answer (length message) (length transmitted) m t in
      let in_frame : DecodedIn setting (blocks_in line) (symbols_in line) message transmitted r message' transmitted' =
      subst (λ (T : ℕ). DecodedIn setting T (symbols_in line) message transmitted r message' transmitted') (blocks_is line yes_of) D in
      let front : message_in line message' ≡ in_frame.message_part =
      message_front setting (sound_of (setting_in line) yes_of.setting) (blocks_in line) (symbols_in line) in_frame in (
        well_formed (ap (λ (a : Answer). a.number) (sym same) ∙ h) r in_frame.message_part in_frame.transmission_part in_frame.decoded
            (ap (output_line line r) front),
        λ z. subst (Symbols 16) (sym front) (small_symbols in_frame.decoded z),
      )

  -- Areas with room for every frame have room for this one.
  pub any_room : (w : LineAreas) → RoomForAll w → room_in line w ≡ true
  any_room w R =
      let symbols : length (symbols_in line) ≤ most_symbols =
      subst (λ (t : ℕ). t ≤ most_symbols) (sym (symbols_long line yes_of))
      (transmission_most (setting_in line) (blocks_in line) yes_of.setting (blocks_few yes_of)) in
      let message : message_length line ≤ most_information = message_most (setting_in line) (blocks_in line) yes_of.setting (blocks_few yes_of) in
      let a : length (symbols_in line) ≤ length w.reception = omega (arith, R.reception) in
      let b : length (symbols_in line) ≤ length w.transmission = omega (arith, R.transmission) in
      let c : message_length line ≤ length w.message = omega (arith, R.message) in
      simp (le-leb _ _ a, le-leb _ _ b, le-leb _ _ c)

-- What room says.
pub room_is : (line : List ℕ) (reception message transmission : ℕ) → has_room line reception message transmission ≡ true
    → (length (symbols_in line) ≤ reception) × (length (symbols_in line) ≤ transmission) × (message_length line ≤ message)
room_is line reception message transmission e =
    let symbols = leb (length (symbols_in line)) reception in
    let sent = leb (length (symbols_in line)) transmission in
    let short = leb (message_length line) message in
    let all : Passes (symbols && (sent && short)) = subst Passes (sym e) tt in
    let later : Passes (sent && short) = and_right symbols (sent && short) all in (
      leb→le (length (symbols_in line)) reception (and_left symbols (sent && short) all),
      leb→le (length (symbols_in line)) transmission (and_left sent short later),
      leb→le (message_length line) message (and_right sent short later),
    )

-- The shape of a line's frame says how long its message is, and that of its setting is no longer than any.
module _ {line : List ℕ} {s : LineShape} (frame : FrameOf line s) where
  pub shape_message : s.frame.blocks * (parameters_of s.frame.setting).k ≡ message_length line
  shape_message = ap (λ (h : Head). h.blocks * (setting_of h.setting).k) frame.head

  pub shape_most : message_length line ≤ most_information
  shape_most =
      subst (λ (t : ℕ). t ≤ most_information) shape_message
      (message_most (number_of s.frame.setting) s.frame.blocks (number_known s.frame.setting) s.frame.few)

-- The symbols behind the head were read into the front of the reception, and decoded there.
pub frame_left : (line : List ℕ) (number head : ℕ) (front : List ℕ) (w : LineAreas) (r : Answer) (message' transmitted' : List ℕ)
    → number ≡ setting_in line → head ≡ head_length (form_in line) → front ≡ map digit_of (take (length line - head) (drop head line))
    → Decoded number (take (length line - head) (front ++ drop (length line - head) w.reception)) w.message w.transmission r message' transmitted'
    → FrameLeft line w r (line_areas (front ++ drop (length line - head) w.reception) message' transmitted')
frame_left line number head front w r message' transmitted' n h e D =
    let is : front ≡ symbols_in line = e ∙ symbols_read line h in
    let long : length front ≡ length line - head = ap length is ∙ (symbols_count line ∙ ap (λ (t : ℕ). length line - t) (sym h)) in
    record {
      symbols = ap₂ (λ (x : List ℕ) (t : ℕ). x ++ drop t w.reception) is (sym long ∙ ap length is);
      decoded =
          subst (λ (y : List ℕ). Decoded (setting_in line) y w.message w.transmission r message' transmitted')
          (take_at front (drop (length line - head) w.reception) (length line - head) long ∙ is)
          (subst (λ (x : ℕ). Decoded x (take (length line - head) (front ++ drop (length line - head) w.reception)) w.message
          w.transmission r message' transmitted') n D);
    }

-- A frame for which there was room is decoded: its answer is the line's, and its message can be written.
pub frame_said : {line : List ℕ} {w w' : LineAreas} {r : Answer} → HoldsFrame line → room_in line w ≡ true → FrameLeft line w r w'
    → length w'.message ≡ length w.message
    → Answers line (output_line line r (message_in line w'.message)) × (message_length line ≤ length w'.message)
    × (r.number ≡ 0 → Symbols 16 (message_in line w'.message))
frame_said {line} {w} {w'} {r} holds room left same =
    let enough = room_is line (length w.reception) (length w.message) (length w.transmission) room in
    let said = frame_answered line holds w.message w.transmission r w'.message w'.transmission enough.2 enough.1 left.decoded in
    (said.0, omega (arith, enough.2, same), said.1)

-- An output line has six characters, or six before a head and a message: then the line holds a frame.
output_long : (line : List ℕ) (r : Answer) (x : List ℕ) → length (output_line line r x) ≤ 6 + head_length (form_in line) + length x
output_long line r x = at (eqb r.number 0)
  where
    at : (b : Bool) → length (pick b (success r.altered (head_in line) x) (refusal r)) ≤ 6 + head_length (form_in line) + length x
    at true = omega (arith, success_long r.altered (head_in line) x)
    at false = omega (arith, refusal_long r.number r.place)

answers_within : (line text : List ℕ) (most : ℕ) → Answers line text → 6 ≤ most
    → (HeadYes line → 6 + head_length (form_in line) + message_length line ≤ most) → length text ≤ most
answers_within line text most (refused h e) six held =
    omega (arith, ap length e, refusal_long (first_no (line_questions line)).number (first_no (line_questions line)).place)
answers_within line text most (well_formed h r x y f e) six held =
    let asked = head_yes line (frame_first line h) in
    let p = setting_of (setting_in line) in
    let message : length x ≡ message_length line = (parts_long p (sound_of (setting_in line) asked.setting) (blocks_in line) (symbols_in line) f).0 in
    omega (arith, ap length e, output_long line r x, held asked)

-- The longest output line: six characters, the longest head, and the longest message.
pub most_answer_lem : MOST_ANSWER ≡ 20491
most_answer_lem = refl

-- None is longer than that ..
pub answers_most : (line text : List ℕ) → Answers line text → length text ≤ MOST_ANSWER
answers_most line text a = answers_within line text MOST_ANSWER a (lit≤ tt) most
  where
    most : HeadYes line → 6 + head_length (form_in line) + message_length line ≤ MOST_ANSWER
    most asked =
        let message : message_length line ≤ most_information =
        message_most (setting_in line) (blocks_in line) asked.setting (blocks_few asked) in
        omega (arith, length_most (form_known line))

-- .. and at most six characters longer than the line: no message is longer than its frame.
pub answers_room : (line text : List ℕ) → Answers line text → length text ≤ length line + 6
answers_room line text a = answers_within line text (length line + 6) a (omega arith) room
  where
    room : HeadYes line → 6 + head_length (form_in line) + message_length line ≤ length line + 6
    room asked =
        let p = setting_of (setting_in line) in
        let blocks : blocks_in line ≤ blocks_in line + p.m = omega arith in
        let message : message_length line ≤ (blocks_in line + p.m) * p.n = mul-le-mul blocks (information_fits p (sound_of (setting_in line) asked.setting)) in
        omega (arith, asked.least, asked.long)

-- So, each with its newline, it is at most seven times as long as the line.
pub answers_sevenfold : (line text : List ℕ) → Answers line text → length text + 1 ≤ 7 * (length line + 1)
answers_sevenfold line text a = omega (arith, answers_room line text a)

-- With room for every frame each line is answered.
pub answered_shown : (line : List ℕ) (w : LineAreas) (output : List ℕ) (r : ℕ) (w' : LineAreas) (output' : List ℕ) → RoomForAll w
    → Answered line w output r w' output' → AnswerShown line output r output'
answered_shown line w output r w' output' R (no_frame h shown e) = shown
answered_shown line w output r w' output' R (no_room holds none z o e) = absurd (false_not_true (sym none ∙ any_room line holds w R))
answered_shown line w output r w' output' R (decoded holds room a left shown) = shown

-- Question 11 is the first, and needs no more than one character too many.
too_long : (line : List ℕ) → most_characters < length line → first_no (line_questions line) ≡ answer 11 0
too_long line h = first_no_lem (ask 11 (leb (length line) most_characters)) (drop 1 (line_questions line)) (lt-leb (length line) most_characters h)

-- A line that is longer is answered by its beginning.
pub answers_kept : (room : ℕ) → most_characters < room → (line text : List ℕ) → Answers (take room line) text → Answers line text
answers_kept room h line text a = at (dec_le (length line) room)
  where
    long : (length line ≤ room → ⊥) → Answers (take room line) text → Answers line text
    long d (refused asked e) =
        let whole : most_characters < length line = omega arith in
        let part : most_characters < length (take room line) = omega (arith, length-take-le room line (omega arith)) in
        refused (λ z. absurd (omega (arith, ap (λ r. r.number) (too_long line whole))))
        (e ∙ ap refusal (too_long (take room line) part ∙ sym (too_long line whole)))
    long d (well_formed asked r x y f e) =
        let part : most_characters < length (take room line) = omega (arith, length-take-le room line (omega arith)) in
        absurd (omega (arith, ap (λ r. r.number) (too_long (take room line) part)))

    at : Dec (length line ≤ room) → Answers line text
    at (yes l) = subst (λ (x : List ℕ). Answers x text) (take_all room line l) a
    at (no d) = long d a
