-- What answering a line promises (01, "Lines at the planning desk"; 02, #107). Holds: `refusal`, `opening` and `success`, the two kinds of output line;
-- `message_length`, `message_in`; `output_line`, `Answers`, which of them a line gets; `DigitsEnough`; `Shown`, a text in a lent area; `AnswerShown`; `LineAreas`,
-- `line_areas`, the working areas, `has_room`, `room_in`, `RoomForAll`, `FrameLeft`; `Answered`, a whole call; that it leaves nothing open, `LineDetermined`.
use Rattle.std.specs.Prelude.{◌≡◌, Bool, true, false, ◌&&◌, List, ◌++◌, map, ℕ, ◌*◌, ◌≤◌, eqb, leb, length, take}
use Rattle.algebra.specs.Ops.{pick}
use Rattle.area.specs.Lists.{overwritten}
use Rattle.code.specs.Settings.{setting_of}
use Rattle.question.specs.declared.answer.Answer.{Answer}
use Rattle.question.specs.Questions.{first_no, most_symbols, most_information}
use Rattle.link.specs.Decoding.{FrameDecoded, Decoded}
use Rattle.line.specs.Characters.{character_of, hex}
use Rattle.line.specs.Heads.{Head, head_in, setting_in, blocks_in, symbols_in, head_text}
use Rattle.line.specs.Questions.{HoldsFrame, line_questions}

-- "else two digits of the question's number and four of the place"
abbrev pub refusal : Answer → List ℕ
refusal a = hex 2 a.number ++ hex 4 a.place

-- "on success `00`, four digits of altered count, the setting digit, three of T, and the message symbols"; a long head has four digits of T.
abbrev pub opening : ℕ → Head → List ℕ
opening count head = hex 2 0 ++ hex 4 count ++ head_text head

abbrev pub success : ℕ → Head → List ℕ → List ℕ
success count head message = opening count head ++ map character_of message

-- T × k, and the part of a message area that the line's message takes.
abbrev pub message_length : List ℕ → ℕ
message_length line = blocks_in line * (setting_of (setting_in line)).k

abbrev pub message_in : List ℕ → List ℕ → List ℕ
message_in line area = take (message_length line) area

-- The output line of an answer to a line, and the message where a message fits.
abbrev pub output_line : List ℕ → Answer → List ℕ → List ℕ
output_line line r message = pick (eqb r.number 0) (success r.altered (head_in line) message) (refusal r)

-- The output line for a line.
pub data Answers (line text : List ℕ) : Type 0 where
  -- One of questions 11, 9, 1, 3, 10 and 4 gets "no".
  refused : ((first_no (line_questions line)).number ≡ 0 → ⊥) → text ≡ refusal (first_no (line_questions line)) → Answers line text
  -- Question 7 is asked of the line's frame: a message that fits, or number 7.
  well_formed : (first_no (line_questions line)).number ≡ 0 → (r : Answer) (message sent : List ℕ)
      → FrameDecoded (setting_of (setting_in line)) (blocks_in line) (symbols_in line) r message sent → text ≡ output_line line r message → Answers line text

-- No digit of a place or a count is lost: four say every place that a line's questions give, and every altered count (`digits_enough`, proofs/Enough).
abbrev pub DigitsEnough : Type 0
DigitsEnough = (line : List ℕ) → ((first_no (line_questions line)).place ≤ 61489)
    × ((first_no (line_questions line)).number ≡ 0 → (r : Answer) (message sent : List ℕ)
    → FrameDecoded (setting_of (setting_in line)) (blocks_in line) (symbols_in line) r message sent → r.altered ≤ 16384)

-- A text at the front of a lent area, r its length. An area too small for it is left as it was, and r is 0.
pub record Shown (text before : List ℕ) (r : ℕ) (after : List ℕ) : Type 0 where
  pub long : r ≡ pick (leb (length text) (length before)) (length text) 0
  pub area : after ≡ pick (leb (length text) (length before)) (overwritten text before) before

-- The output line for a line, in the output area.
pub record AnswerShown (line before : List ℕ) (r : ℕ) (after : List ℕ) : Type 0 where
  pub text : List ℕ
  pub answers : Answers line text
  pub shown : Shown text before r after

-- The working areas that a caller lends: for the reception, for the message and for its transmission.
pub record LineAreas : Type 0 where
  pub reception : List ℕ
  pub message : List ℕ
  pub transmission : List ℕ

abbrev pub line_areas : List ℕ → List ℕ → List ℕ → LineAreas
line_areas reception message transmission = record { reception = reception; message = message; transmission = transmission }

-- Working areas of these lengths have room for the line's frame: its (T+m) × n symbols, twice, and the T × k of its message.
abbrev pub has_room : List ℕ → ℕ → ℕ → ℕ → Bool
has_room line reception message transmission =
    leb (length (symbols_in line)) reception && (leb (length (symbols_in line)) transmission && leb (message_length line) message)

abbrev pub room_in : List ℕ → LineAreas → Bool
room_in line w = has_room line (length w.reception) (length w.message) (length w.transmission)

-- Working areas with room for the frame of every line.
pub record RoomForAll (w : LineAreas) : Type 0 where
  pub reception : most_symbols ≤ length w.reception
  pub message : most_information ≤ length w.message
  pub transmission : most_symbols ≤ length w.transmission

-- The line's frame was decoded with the answer a: the reception area holds its symbols and then what it held, the others what decoding leaves in them.
pub record FrameLeft (line : List ℕ) (w : LineAreas) (a : Answer) (w' : LineAreas) : Type 0 where
  pub symbols : w'.reception ≡ overwritten (symbols_in line) w.reception
  pub decoded : Decoded (setting_in line) (symbols_in line) w.message w.transmission a w'.message w'.transmission

-- What a call on this line, with these areas lent, returns and leaves in them, whatever they held.
pub data Answered (line : List ℕ) (w : LineAreas) (output : List ℕ) (r : ℕ) (w' : LineAreas) (output' : List ℕ) : Type 0 where
  -- One of questions 11, 9, 1, 3 and 10 gets "no": the line is answered, and the working areas are unchanged.
  no_frame : (HoldsFrame line → ⊥) → AnswerShown line output r output' → w' ≡ w → Answered line w output r w' output'
  -- A working area is too small for the line's frame: the length is 0, and nothing is written.
  no_room : HoldsFrame line → room_in line w ≡ false → r ≡ 0 → output' ≡ output → w' ≡ w → Answered line w output r w' output'
  -- The frame is decoded, and the line is answered.
  decoded : HoldsFrame line → room_in line w ≡ true → (a : Answer) → FrameLeft line w a w' → AnswerShown line output r output'
      → Answered line w output r w' output'

-- "Answers to outside callers stay equal to today's" (02, #105): of a line too the promise leaves one length and one content of each area, whatever was lent
-- (`line_determined`, proofs/Determined).
abbrev pub LineDetermined : Type 0
LineDetermined = (line : List ℕ) (w : LineAreas) (output : List ℕ) (r s : ℕ) (w' other : LineAreas) (output' other_output : List ℕ)
    → Answered line w output r w' output' → Answered line w output s other other_output → (r ≡ s) × (w' ≡ other) × (output' ≡ other_output)
