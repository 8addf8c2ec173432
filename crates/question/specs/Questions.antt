-- The questions of each call (01, "Questions, asked in this order"; 02, #104, #106, #107): a call's answer is the first "no".
-- Holds: `Question`, `ask`, `ask_at`, `answer`, `counted`, `first_no`; `most_blocks`, `most_frames`, `most_symbols`, `most_information`; `blocks_of` (T),
-- `passing_to`; `is_symbol`, `is_received`, what question 4 admits, `UnknownIsMark`, `UnknownAreMarks`; `length_questions`, `frame_questions`,
-- `symbol_question`, `transmission_question`, `area_questions`, and from them the questions of decoding, encoding, display and marks; `woven_questions`, and
-- from them those of weaving, unweaving and decoding of woven frames; `encoding_samples`, `decoding_samples`, `marks_samples`, `weaving_samples`,
-- `woven_decoding_samples`, `limit_samples`, `longest_samples`.
use Rattle.std.specs.Prelude.{◌≡◌, ◌<◌, refl, Bool, true, ◌&&◌, ◌||◌, List, [], ◌∷◌, ◌++◌, ℕ, ◌+◌, ◌-◌, ◌*◌, ◌/◌, ◌%◌, ◌≤◌, eqb, leb, ltb, length, replicate}
use Rattle.std.specs.List.{prefix_len}
use Rattle.algebra.specs.Ops.{pick}
use Rattle.algebra.specs.Weight.{count_of}
use Rattle.field.specs.Symbols.{unknown_mark, is_unknown}
use Rattle.code.specs.declared.Setting.{Setting}
use Rattle.code.specs.Settings.{settings, is_setting, setting_of, largest}
use Rattle.code.specs.Windows.{window_length, unknown_symbols}
use Rattle.question.specs.declared.answer.Answer.{Answer}

-- A question: its number, its place if the answer is "no", and whether the answer is "yes".
pub record Question : Type 0 where
  pub number : ℕ
  pub place : ℕ
  pub holds : Bool

-- "The place is 0 unless named."
abbrev pub ask : ℕ → Bool → Question
ask number holds = record { number = number; place = 0; holds = holds }

abbrev pub ask_at : ℕ → ℕ → Bool → Question
ask_at number place holds = record { number = number; place = place; holds = holds }

-- The answer of a call that counts nothing, and of every refusal.
abbrev pub answer : ℕ → ℕ → Answer
answer number place = record { number = number; altered = 0; place = place; unknown = 0 }

-- The answer of a decoding that finds a message: "The answer's shared record gains the number of unknown symbols over all blocks, 0 with every refusal and from
-- calls that don't decode" (02, #106).
abbrev pub counted : ℕ → ℕ → Answer
counted altered unknown = record { number = 0; altered = altered; place = 0; unknown = unknown }

-- "A "no" gives the number .. the count is 0. When every answer is yes, number and place are 0."
abbrev pub first_no : List Question → Answer
first_no [] = answer 0 0
first_no (x ∷ rest) = pick x.holds (first_no rest) (answer x.number x.place)

-- "The library's limit for T becomes 4,096" (02, #107).
abbrev pub most_blocks : ℕ
most_blocks = 4096

-- "14 when D isn't 2 to 8" (02, #104)
abbrev pub most_frames : ℕ
most_frames = 8

-- The most symbols of a transmission, (T+m) × n, and of a message, T × k, of any setting.
abbrev pub most_symbols : ℕ
most_symbols = largest (λ p. (most_blocks + p.m) * p.n) settings

abbrev pub most_information : ℕ
most_information = largest (λ p. most_blocks * p.k) settings

-- T of a reception of this length.
abbrev pub blocks_of : Setting → ℕ → ℕ
blocks_of p long = long / p.n - p.m

-- How many bytes stand before the first that fails the test.
unfoldable pub passing_to : (ℕ → Bool) → List ℕ → ℕ
passing_to test bytes = prefix_len test bytes

-- What question 4 admits: in encoding a symbol ("one byte below q"), elsewhere the mark of an unknown symbol too ("Questions 4 and 9 admit the mark, save in
-- encoding", 02, #106).
abbrev pub is_symbol : ℕ → ℕ → Bool
is_symbol q x = ltb x q

abbrev pub is_received : ℕ → ℕ → Bool
is_received q x = is_symbol q x || eqb x unknown_mark

-- Of the bytes that question 4 admits in a reception the mark alone stands for an unknown symbol (`unknown_is_mark`, proofs/Questions).
abbrev pub UnknownIsMark : Type 0
UnknownIsMark = (q v : ℕ) → q ≤ unknown_mark → is_received q v ≡ true → is_unknown q v ≡ eqb v unknown_mark

-- So of n symbols that it admits as many are unknown as are the mark (`unknown_are_marks`, proofs/Questions).
abbrev pub UnknownAreMarks : Type 0
UnknownAreMarks = (q n : ℕ) (v : ℕ → ℕ) → q ≤ unknown_mark → ((i : ℕ) → i < n → is_received q (v i) ≡ true)
    → unknown_symbols q n v ≡ count_of n (λ i. eqb (v i) unknown_mark)

-- Of a frame of this length, 2: "Is the length a multiple of n and at least (m+1) × n?" 3: "Is T at most" the library's limit?
abbrev pub length_questions : Setting → ℕ → List Question
length_questions p long =
    ask 2 (eqb (long % p.n) 0 && leb (window_length p) long)
    ∷ ask 3 (leb (blocks_of p long) most_blocks)
    ∷ []

-- 1: "Question 1 admits 1 to 5" (02, #101). 2 and 3.
abbrev pub frame_questions : ℕ → ℕ → List Question
frame_questions number long = ask 1 (is_setting number) ∷ length_questions (setting_of number) long

-- 4: "Is every symbol below q? Place: the first that is not, counted from 0." Of bytes of which these are admitted.
abbrev pub symbol_question : (ℕ → Bool) → List ℕ → Question
symbol_question admits symbols = ask_at 4 (passing_to admits symbols) (eqb (passing_to admits symbols) (length symbols))

-- 6: "Does the transmission area have (T+m) × n bytes or more?"
abbrev pub transmission_question : Setting → ℕ → ℕ → Question
transmission_question p T room = ask 6 (leb ((T + p.m) * p.n) room)

-- 4, 5: "Does the message area have T × k bytes or more?", 6.
abbrev pub area_questions : Setting → ℕ → List ℕ → ℕ → ℕ → List Question
area_questions p T reception message_room transmission_room =
    symbol_question (is_received p.q) reception
    ∷ ask 5 (leb (T * p.k) message_room)
    ∷ transmission_question p T transmission_room
    ∷ []

-- Decoding: 1, 2, 3, 4, 5, 6. (7 is asked of the reception: see `Decoded`.)
abbrev pub decoding_questions : ℕ → List ℕ → ℕ → ℕ → List Question
decoding_questions number reception message_room transmission_room =
    frame_questions number (length reception)
    ++ area_questions (setting_of number) (blocks_of (setting_of number) (length reception)) reception message_room transmission_room

-- Encoding: 1; 8: "Is the length a multiple of k and at least k?"; 3, 4, 6.
abbrev pub encoding_questions : ℕ → List ℕ → ℕ → List Question
encoding_questions number message transmission_room =
    ask 1 (is_setting number)
    ∷ ask 8 (eqb (length message % (setting_of number).k) 0 && leb (setting_of number).k (length message))
    ∷ ask 3 (leb (length message / (setting_of number).k) most_blocks)
    ∷ symbol_question (is_symbol (setting_of number).q) message
    ∷ transmission_question (setting_of number) (length message / (setting_of number).k) transmission_room
    ∷ []

-- Display: 1, 2, 3; 12: "Is j below T?"
abbrev pub display_questions : ℕ → ℕ → ℕ → List Question
display_questions number long j = frame_questions number long ++ ask 12 (ltb j (blocks_of (setting_of number) long)) ∷ []

-- Marks: the same, then 13: "Are both lengths equal?" "For marks, 2 and 3 look at the reception."
abbrev pub marks_questions : ℕ → ℕ → ℕ → ℕ → List Question
marks_questions number reception_long transmission_long j = display_questions number reception_long j ++ ask 13 (eqb reception_long transmission_long) ∷ []

-- D woven frames (02, #104): 1; "14 when D isn't 2 to 8, looked at straight after 1; 15 when the incoming length isn't a multiple of D, straight after 14";
-- "Questions 2 and 3 look at one frame's length."
abbrev pub woven_questions : ℕ → ℕ → ℕ → List Question
woven_questions number D long =
    ask 1 (is_setting number)
    ∷ ask 14 (leb 2 D && leb D most_frames)
    ∷ ask 15 (eqb (long % D) 0)
    ∷ length_questions (setting_of number) (long / D)

-- "Weaving and unweaving put 1, 14, 15, 2, 3, 4, and 6 for as many bytes as come in." "Question 4 looks at the whole incoming area, and its place is counted
-- there."
abbrev pub weaving_questions : ℕ → ℕ → List ℕ → ℕ → List Question
weaving_questions number D incoming room =
    woven_questions number D (length incoming)
    ++ symbol_question (is_received (setting_of number).q) incoming
    ∷ ask 6 (leb (length incoming) room)
    ∷ []

-- Decoding of D woven frames: the same, but "Questions 5 and 6 want bytes for D frames".
abbrev pub woven_decoding_questions : ℕ → ℕ → List ℕ → ℕ → ℕ → List Question
woven_decoding_questions number D reception message_room transmission_room =
    woven_questions number D (length reception)
    ++ symbol_question (is_received (setting_of number).q) reception
    ∷ ask 5 (leb (D * (blocks_of (setting_of number) (length reception / D) * (setting_of number).k)) message_room)
    ∷ ask 6 (leb (D * ((blocks_of (setting_of number) (length reception / D) + (setting_of number).m) * (setting_of number).n)) transmission_room)
    ∷ []

-- Examples, computed: which question comes first where several would be answered "no".
-- No setting 257, though its last byte is 1; 8; 4 with its place before 6; 6; yes; of one and two blocks, and of 512. A message has no unknown symbols: the mark
-- gets 4.
pub encoding_samples : first_no (encoding_questions 257 [] 0)
    ∷ first_no (encoding_questions 2 (9 ∷ []) 0)
    ∷ first_no (encoding_questions 2 (replicate 3 7 ++ 8 ∷ []) 0)
    ∷ first_no (encoding_questions 2 (replicate 4 7) 27)
    ∷ first_no (encoding_questions 2 (replicate 4 7) 28)
    ∷ first_no (encoding_questions 2 (replicate 1027 9) 0)
    ∷ first_no (encoding_questions 2 (replicate 1023 7 ++ 8 ∷ []) 0)
    ∷ first_no (encoding_questions 2 (replicate 1024 7) 3597)
    ∷ first_no (encoding_questions 2 (replicate 1024 7) 3598)
    ∷ first_no (encoding_questions 2 (7 ∷ 255 ∷ []) 0)
    ∷ []
    ≡ answer 1 0 ∷ answer 8 0 ∷ answer 4 3 ∷ answer 6 0 ∷ answer 0 0 ∷ answer 8 0 ∷ answer 4 1023 ∷ answer 6 0 ∷ answer 0 0 ∷ answer 4 1 ∷ []
unfolding passing_to
encoding_samples = refl

-- 1, below the settings and past them; 2 for a length that is no multiple of n, and for one below (m+1) × n; 4 with its place before 5; 5 before 6; 6; yes; of one
-- block, and of 512. With sixteen elements 15 is a symbol, and 16 is none. Unknown symbols pass, with the mark 255 alone.
pub decoding_samples : first_no (decoding_questions 0 [] 0 0)
    ∷ first_no (decoding_questions 6 [] 0 0)
    ∷ first_no (decoding_questions 3 (replicate 15 9) 0 0)
    ∷ first_no (decoding_questions 3 (replicate 7 9) 0 0)
    ∷ first_no (decoding_questions 3 (replicate 13 7 ++ 8 ∷ []) 0 0)
    ∷ first_no (decoding_questions 3 (replicate 14 7) 2 0)
    ∷ first_no (decoding_questions 3 (replicate 14 7) 3 13)
    ∷ first_no (decoding_questions 3 (replicate 14 7) 3 14)
    ∷ first_no (decoding_questions 3 (replicate 3592 9) 0 0)
    ∷ first_no (decoding_questions 3 (replicate 3590 7 ++ 8 ∷ []) 0 0)
    ∷ first_no (decoding_questions 3 (replicate 3591 7) 1535 0)
    ∷ first_no (decoding_questions 3 (replicate 3591 7) 1536 3590)
    ∷ first_no (decoding_questions 3 (replicate 3591 7) 1536 3591)
    ∷ first_no (decoding_questions 4 (replicate 59 15 ++ 16 ∷ []) 0 0)
    ∷ first_no (decoding_questions 1 (replicate 4 3 ++ replicate 8 255) 1 12)
    ∷ first_no (decoding_questions 1 (replicate 11 255 ++ 254 ∷ []) 1 12)
    ∷ []
    ≡ answer 1 0 ∷ answer 1 0 ∷ answer 2 0 ∷ answer 2 0 ∷ answer 4 13 ∷ answer 5 0 ∷ answer 6 0 ∷ answer 0 0
    ∷ answer 2 0 ∷ answer 4 3590 ∷ answer 5 0 ∷ answer 6 0 ∷ answer 0 0
    ∷ answer 4 59 ∷ answer 0 0 ∷ answer 4 11 ∷ []
unfolding passing_to
decoding_samples = refl

-- 12, for any j, before 13; 13; yes; of one block, and of 512.
pub marks_samples : first_no (marks_questions 1 12 0 1)
    ∷ first_no (marks_questions 1 12 0 18446744073709551615)
    ∷ first_no (marks_questions 1 12 11 0)
    ∷ first_no (marks_questions 1 12 12 0)
    ∷ first_no (marks_questions 1 2056 0 512)
    ∷ first_no (marks_questions 1 2056 0 18446744073709551615)
    ∷ first_no (marks_questions 1 2056 2055 511)
    ∷ first_no (marks_questions 1 2056 2056 511)
    ∷ []
    ≡ answer 12 0 ∷ answer 12 0 ∷ answer 13 0 ∷ answer 0 0 ∷ answer 12 0 ∷ answer 12 0 ∷ answer 13 0 ∷ answer 0 0 ∷ []
marks_samples = refl

-- 1 before 14; 14 for no frame, one, nine and 2^64 − 1 frames, before 15; 15 before 2; an empty area passes 15 and gets 2; 2 of one frame's length, though both
-- frames' together would do; 4 with its place before 6; 6; yes. Unknown symbols pass.
pub weaving_samples : first_no (weaving_questions 6 0 [] 0)
    ∷ first_no (weaving_questions 1 0 (replicate 23 9) 0)
    ∷ first_no (weaving_questions 1 1 (replicate 23 9) 0)
    ∷ first_no (weaving_questions 1 9 (replicate 23 9) 0)
    ∷ first_no (weaving_questions 1 18446744073709551615 (replicate 23 9) 0)
    ∷ first_no (weaving_questions 1 2 (replicate 23 9) 0)
    ∷ first_no (weaving_questions 1 2 [] 0)
    ∷ first_no (weaving_questions 1 2 (replicate 12 9) 0)
    ∷ first_no (weaving_questions 1 2 (replicate 23 4 ++ 5 ∷ []) 0)
    ∷ first_no (weaving_questions 1 2 (replicate 24 4) 23)
    ∷ first_no (weaving_questions 1 8 (replicate 96 4) 96)
    ∷ first_no (weaving_questions 1 2 (replicate 24 255) 24)
    ∷ first_no (weaving_questions 1 2 (replicate 23 255 ++ 254 ∷ []) 24)
    ∷ []
    ≡ answer 1 0 ∷ answer 14 0 ∷ answer 14 0 ∷ answer 14 0 ∷ answer 14 0 ∷ answer 15 0 ∷ answer 2 0 ∷ answer 2 0 ∷ answer 4 23
    ∷ answer 6 0 ∷ answer 0 0 ∷ answer 0 0 ∷ answer 4 23 ∷ []
unfolding passing_to
weaving_samples = refl

-- 14 before 15; 15 before 2; 4 with its place before 5; 5 for eight frames' bytes before 6; 6 for eight frames' bytes; yes.
-- Unknown symbols pass.
pub woven_decoding_samples : first_no (woven_decoding_questions 3 9 (replicate 113 9) 0 0)
    ∷ first_no (woven_decoding_questions 3 8 (replicate 113 9) 0 0)
    ∷ first_no (woven_decoding_questions 3 8 (replicate 111 7 ++ 8 ∷ []) 0 0)
    ∷ first_no (woven_decoding_questions 3 8 (replicate 112 7) 23 0)
    ∷ first_no (woven_decoding_questions 3 8 (replicate 112 7) 24 111)
    ∷ first_no (woven_decoding_questions 3 8 (replicate 112 7) 24 112)
    ∷ first_no (woven_decoding_questions 3 8 (replicate 112 255) 24 112)
    ∷ []
    ≡ answer 14 0 ∷ answer 15 0 ∷ answer 4 111 ∷ answer 5 0 ∷ answer 6 0 ∷ answer 0 0 ∷ answer 0 0 ∷ []
unfolding passing_to
woven_decoding_samples = refl

-- 4,097 blocks get 3 from every call: after 8 and 2, and before 4 and 12.
pub limit_samples : (first_no (encoding_questions 2 (replicate 8195 9) 0) ≡ answer 8 0)
    × (first_no (encoding_questions 2 (replicate 8194 9) 0) ≡ answer 3 0)
    × (first_no (decoding_questions 1 (replicate 16397 9) 0 0) ≡ answer 2 0)
    × (first_no (decoding_questions 1 (replicate 16396 9) 0 0) ≡ answer 3 0)
    × (first_no (display_questions 1 16396 4097) ≡ answer 3 0)
    × (first_no (marks_questions 1 16396 0 4097) ≡ answer 3 0)
    × (first_no (weaving_questions 1 2 (replicate 32792 9) 0) ≡ answer 3 0)
    × (first_no (woven_decoding_questions 1 2 (replicate 32792 9) 0 0) ≡ answer 3 0)
unfolding passing_to
limit_samples = (refl, refl, refl, refl, refl, refl, refl, refl)

-- 4,096 blocks get "yes" from every call, in areas with just the room that they need, and of the last window.
pub longest_samples : (first_no (encoding_questions 2 (replicate 8192 7) 28686) ≡ answer 0 0)
    × (first_no (decoding_questions 1 (replicate 16392 4) 4096 16392) ≡ answer 0 0)
    × (first_no (display_questions 1 16392 4095) ≡ answer 0 0)
    × (first_no (marks_questions 1 16392 16392 4095) ≡ answer 0 0)
    × (first_no (weaving_questions 1 2 (replicate 32784 4) 32784) ≡ answer 0 0)
    × (first_no (woven_decoding_questions 1 2 (replicate 32784 4) 8192 32784) ≡ answer 0 0)
unfolding passing_to
longest_samples = (refl, refl, refl, refl, refl, refl)
