-- What decoding promises (demands 1 and 2; 01, "Questions, asked in this order"). Holds: `FrameDecoded`, the two answers to question 7; `DecodedIn`, these
-- in lent areas; `Decoded`, a whole call; what is proved of its counts, `CountsBounded`, `CountBound`; that it leaves nothing open, `DecodingDetermined`.
use Rattle.std.specs.Prelude.{◌≡◌, List, ◌++◌, ℕ, ◌+◌, ◌*◌, ◌≤◌, length, get_or, drop, replicate}
use Rattle.code.specs.declared.Setting.{Setting}
use Rattle.code.specs.Settings.{setting_of}
use Rattle.code.specs.Windows.{transmission, unknown_symbols, altered, unknown_in, most_altered, most_damage, most_unknown, Fits}
use Rattle.question.specs.declared.answer.Answer.{Answer}
use Rattle.question.specs.Questions.{answer, counted, first_no, blocks_of, decoding_questions}

-- Question 7, "Does some message fit?", of a reception of T+m blocks: the answer, and what it puts in the first T × k bytes of the message area and in the
-- first (T+m) × n of the transmission area.
pub data FrameDecoded (p : Setting) (T : ℕ) (reception : List ℕ) (r : Answer) (message transmitted : List ℕ) : Type 0 where
  -- "a message that fits, its transmission and the number of symbols altered": the number is `altered`, closing blocks left out ("The count in decoding's
  -- promise is read by this rule", 02, #102), and known symbols only; with it "the number of unknown symbols over all blocks" (02, #106).
  found : Fits p T reception message → r ≡ counted (altered p T reception (transmission p message)) (unknown_in p T reception)
      → transmitted ≡ transmission p message → FrameDecoded p T reception r message transmitted
  -- "It refuses with number 7 if no message fits", and "the places for the message and its transmission hold zeros".
  none_fits : ((x : List ℕ) → Fits p T reception x → ⊥) → r ≡ answer 7 0 → message ≡ replicate (T * p.k) 0
      → transmitted ≡ replicate ((T + p.m) * p.n) 0 → FrameDecoded p T reception r message transmitted

-- The same in lent areas: each holds its part, and "bytes past those places never change".
pub record DecodedIn (p : Setting) (T : ℕ) (reception message transmitted : List ℕ) (r : Answer) (message' transmitted' : List ℕ) : Type 0 where
  pub message_part : List ℕ
  pub transmission_part : List ℕ
  pub decoded : FrameDecoded p T reception r message_part transmission_part
  pub message_area : message' ≡ message_part ++ drop (T * p.k) message
  pub transmission_area : transmitted' ≡ transmission_part ++ drop ((T + p.m) * p.n) transmitted

-- What a call on this setting and reception, with these areas lent, answers and leaves in the areas.
pub data Decoded (number : ℕ) (reception message transmitted : List ℕ) (r : Answer) (message' transmitted' : List ℕ) : Type 0 where
  -- One of questions 1 to 6 gets "no": its number and place, count 0, and nothing is changed.
  refused : ((first_no (decoding_questions number reception (length message) (length transmitted))).number ≡ 0 → ⊥)
      → r ≡ first_no (decoding_questions number reception (length message) (length transmitted))
      → message' ≡ message → transmitted' ≡ transmitted → Decoded number reception message transmitted r message' transmitted'
  -- "From a well-formed reception, with areas large enough": question 7, with the setting of that number and the T of that length.
  well_formed : (first_no (decoding_questions number reception (length message) (length transmitted))).number ≡ 0
      → DecodedIn (setting_of number) (blocks_of (setting_of number) (length reception)) reception message transmitted r message' transmitted'
      → Decoded number reception message transmitted r message' transmitted'

-- Bounds of what an answer counts of a reception of T+m blocks. "The bound becomes t × (T/(m+1), rounded up)" (02, #102): of the altered count. Beside it,
-- where a message was found, twice that count and the unknown symbols of blocks 0 to T−1 are at most d × (T/(m+1), rounded up); and the unknown symbols, of all
-- blocks, are at most d × ((T+m)/(m+1), rounded up).
pub record CountsBounded (p : Setting) (T : ℕ) (reception : List ℕ) (r : Answer) : Type 0 where
  pub altered_most : r.altered ≤ most_altered p T
  pub damage_most : r.number ≡ 0 → 2 * r.altered + unknown_symbols p.q (T * p.n) (λ i. get_or reception i 0) ≤ most_damage p T
  pub unknown_most : r.unknown ≤ most_unknown p T

-- Of every answer that a decoding call returns, whatever was received and lent (`count_bound`, proofs/CountBound).
abbrev pub CountBound : Type 0
CountBound = (number : ℕ) (reception message transmitted : List ℕ) (r : Answer) (message' transmitted' : List ℕ)
    → Decoded number reception message transmitted r message' transmitted'
    → CountsBounded (setting_of number) (blocks_of (setting_of number) (length reception)) reception r

-- "Answers to outside callers stay equal to today's" (02, #105): whatever was received and lent, the promise leaves one answer and one content of each area, so
-- two decoders that keep it give the same answers and bytes (`decoded_determined`, proofs/Determined).
abbrev pub DecodingDetermined : Type 0
DecodingDetermined = (number : ℕ) (reception message transmitted : List ℕ) (r s : Answer) (message' transmitted' other other_sent : List ℕ)
    → Decoded number reception message transmitted r message' transmitted' → Decoded number reception message transmitted s other other_sent
    → (r ≡ s) × (message' ≡ other) × (transmitted' ≡ other_sent)
