-- What decoding of woven frames promises (02, #104), and what follows of a burst.
-- Holds: `woven_answer`, what a call's outcome stands for; `FramesDecoded`, the frames' own answers; `DecodedWoven`, a whole call; `OneRun`, `AllReturned`,
-- `RunReturned`, and of it `BurstReturned`, the promise on bursts, and `BlankReturned`, that on bursts of unknown symbols (`Blanked`); `WovenDetermined`,
-- that a call's promise leaves nothing open.
use Rattle.std.specs.Prelude.{◌≡◌, true, List, map, ℕ, ◌+◌, ◌*◌, ◌/◌, ◌≤◌, ◌<◌, Result, Ok, Err, length, get_or, drop, replicate}
use Rattle.area.specs.Lists.{part_at, in_turn, overwritten}
use Rattle.field.specs.Symbols.{is_unknown}
use Rattle.code.specs.declared.Setting.{Setting}
use Rattle.code.specs.Code.{design_distance, limit}
use Rattle.code.specs.Settings.{setting_of}
use Rattle.code.specs.Windows.{transmission, Message}
use Rattle.question.specs.declared.answer.Answer.{Answer}
use Rattle.question.specs.declared.answer.Counts.{Counts}
use Rattle.question.specs.declared.refusal.Refusal.{Refusal}
use Rattle.question.specs.Questions.{answer, first_no, most_frames, blocks_of, woven_decoding_questions}
use Rattle.question.specs.Refusals.{answered}
use Rattle.weave.specs.Weaving.{woven, unwoven}
use Rattle.link.specs.declared.woven.WovenAnswer.{WovenAnswer}
use Rattle.link.specs.Decoding.{Decoded}

-- The answers that a call's outcome stands for: the frames' own, or that of a refusal and zeros for every frame.
abbrev pub woven_answer : Result (List (Result Counts Refusal)) Refusal → WovenAnswer
woven_answer (Ok frames) = record { answer = answer 0 0; frame = map answered frames }
woven_answer (Err refusal) = record { answer = answered (Err refusal); frame = replicate most_frames (answer 0 0) }

-- "Past these, frames are answered in order, each as if decoded alone": decoding's own promise of frame f, with its part of each area: the frames' places lie
-- one after another, T × k bytes each for the messages and (T+m) × n for the transmissions. "7 zeroes that frame's bytes only": there is nothing else in these
-- parts, and bytes past the D frames never change.
pub record FramesDecoded (number D T : ℕ) (reception message transmitted : List ℕ) (answers : List Answer) (message' transmitted' : List ℕ) : Type 0 where
  pub frame : (f : ℕ) → f < D
      → Decoded number (part_at ((T + (setting_of number).m) * (setting_of number).n) f (unwoven D reception))
      (part_at (T * (setting_of number).k) f message) (part_at ((T + (setting_of number).m) * (setting_of number).n) f transmitted)
      (get_or answers f (answer 0 0))
      (part_at (T * (setting_of number).k) f message') (part_at ((T + (setting_of number).m) * (setting_of number).n) f transmitted')
  -- No frame from D on: zeros.
  pub no_frame : (f : ℕ) → D ≤ f → get_or answers f (answer 0 0) ≡ answer 0 0
  pub message_past : drop (D * (T * (setting_of number).k)) message' ≡ drop (D * (T * (setting_of number).k)) message
  pub transmission_past : drop (D * ((T + (setting_of number).m) * (setting_of number).n)) transmitted'
      ≡ drop (D * ((T + (setting_of number).m) * (setting_of number).n)) transmitted

-- What a call on this setting, number of frames and woven reception, with these areas lent, answers and leaves in the areas.
pub data DecodedWoven (number D : ℕ) (reception message transmitted : List ℕ) (r : WovenAnswer) (message' transmitted' : List ℕ) : Type 0 where
  -- One of the questions before 7 gets "no": its number and place for all frames, no frame's answer, and nothing is changed.
  refused : ((first_no (woven_decoding_questions number D reception (length message) (length transmitted))).number ≡ 0 → ⊥)
      → r.answer ≡ first_no (woven_decoding_questions number D reception (length message) (length transmitted))
      → ((f : ℕ) → get_or r.frame f (answer 0 0) ≡ answer 0 0)
      → message' ≡ message → transmitted' ≡ transmitted → DecodedWoven number D reception message transmitted r message' transmitted'
  -- They get "yes": question 7 of each frame, with the T of one frame's length.
  well_formed : (first_no (woven_decoding_questions number D reception (length message) (length transmitted))).number ≡ 0
      → r.answer ≡ answer 0 0
      → FramesDecoded number D (blocks_of (setting_of number) (length reception / D)) reception message transmitted r.frame message' transmitted'
      → DecodedWoven number D reception message transmitted r message' transmitted'

-- "the only damage is one run of .. consecutive symbols": before symbol `start` and from `start` + `run` on, what came in is what was sent.
pub record OneRun (start run : ℕ) (sent received : List ℕ) : Type 0 where
  pub long : length received ≡ length sent
  pub before : (s : ℕ) → s < start → get_or received s 0 ≡ get_or sent s 0
  pub after : (s : ℕ) → start + run ≤ s → get_or received s 0 ≡ get_or sent s 0

-- "every one of the D messages comes back": each frame's number is 0, and the areas hold the messages and their transmissions, frame after frame.
pub record AllReturned (p : Setting) (D : ℕ) (messages : ℕ → List ℕ) (message transmitted : List ℕ) (r : WovenAnswer) (message' transmitted' : List ℕ)
    : Type 0 where
  pub accepted : (f : ℕ) → f < D → (get_or r.frame f (answer 0 0)).number ≡ 0
  pub messages_back : message' ≡ overwritten (in_turn D messages) message
  pub transmissions_back : transmitted' ≡ overwritten (in_turn D (λ f. transmission p (messages f))) transmitted

-- "If the only damage is one run of" at most D × `most` symbols "and every question before 7 gets yes, every one of the D messages comes back": of D messages
-- of T blocks each, their woven transmissions, and whatever areas were lent.
abbrev pub RunReturned : ℕ → ℕ → ℕ → ℕ → ℕ → List ℕ → Type 0
RunReturned number D start run most received =
    (T : ℕ) (messages : ℕ → List ℕ) (message transmitted : List ℕ) (r : WovenAnswer) (message' transmitted' : List ℕ)
    → ((f : ℕ) → f < D → Message (setting_of number) T (messages f))
    → OneRun start run (woven D (in_turn D (λ f. transmission (setting_of number) (messages f)))) received
    → run ≤ D * most
    → (first_no (woven_decoding_questions number D received (length message) (length transmitted))).number ≡ 0
    → DecodedWoven number D received message transmitted r message' transmitted'
    → AllReturned (setting_of number) D messages message transmitted r message' transmitted'

-- "If the only damage is one run of at most D × t consecutive symbols ..": of any run, whatever came in the place of its symbols, wrong ones, unknown ones or
-- both (`burst_returned`, proofs/Burst).
abbrev pub BurstReturned : Type 0
BurstReturned = (number D start run : ℕ) (received : List ℕ)
    → RunReturned number D start run (limit (setting_of number).n (setting_of number).k (setting_of number).m) received

-- Every symbol of the run is unknown, as far as the reception goes: the receiver was blanked. Question 4 admits the mark alone.
abbrev pub Blanked : ℕ → ℕ → ℕ → List ℕ → Type 0
Blanked q start run received = (s : ℕ) → start ≤ s → s < start + run → s < length received → is_unknown q (get_or received s 0) ≡ true

-- The same of a run of at most D × d symbols where all of them are unknown. It is not in 02: it follows of #104 with the wider meaning of #106
-- (`blank_returned`, proofs/Burst).
abbrev pub BlankReturned : Type 0
BlankReturned = (number D start run : ℕ) (received : List ℕ) → Blanked (setting_of number).q start run received
    → RunReturned number D start run (design_distance (setting_of number).n (setting_of number).k (setting_of number).m) received

-- "Answers to outside callers stay equal to today's" (02, #105): of woven frames too the promise leaves one common answer, one answer of each frame and one
-- content of each area (`woven_determined`, proofs/Determined).
abbrev pub WovenDetermined : Type 0
WovenDetermined = (number D : ℕ) (reception message transmitted : List ℕ) (r s : WovenAnswer) (message' transmitted' other other_sent : List ℕ)
    → DecodedWoven number D reception message transmitted r message' transmitted' → DecodedWoven number D reception message transmitted s other other_sent
    → (r.answer ≡ s.answer) × ((f : ℕ) → get_or r.frame f (answer 0 0) ≡ get_or s.frame f (answer 0 0)) × (message' ≡ other)
    × (transmitted' ≡ other_sent)
