-- What is said of an order that was worked through (01; order, message: the information word). Holds: `Call`, `Order`; `Overwritten`, `Promised`,
-- `OrderKept`; `encodes`, `reads` and `gets_seven`, the three kinds of order. The orders themselves stand in specs/Sample.
use Rattle.std.specs.Prelude.{◌≡◌, List, ℕ, ◌≤◌, length, replicate}
use Rattle.area.specs.Lists.{overwritten}
use Rattle.question.specs.declared.answer.Answer.{Answer}
use Rattle.question.specs.Questions.{answer, counted}
use Rattle.link.specs.Encoding.{Encoded}
use Rattle.link.specs.Decoding.{Decoded}

pub data Call : Type 0 where
  encoding : Call
  decoding : Call

-- Which call, on which setting, what is given (a message to encode, a reception to decode), and what comes back: the answer, the message and the transmission.
pub record Order : Type 0 where
  pub call : Call
  pub setting : ℕ
  pub given : List ℕ
  pub answer : Answer
  pub message : List ℕ
  pub sent : List ℕ

-- The area holds these bytes, and past them what it held.
abbrev pub Overwritten : List ℕ → List ℕ → List ℕ → Type 0
Overwritten front before after = after ≡ overwritten front before

-- What 01 says of an order is said of every answer r and all memory that the call's promise allows, whatever areas were lent, if they are long enough.
abbrev pub Promised : Call → Order → Type 0
Promised encoding o = (before after : List ℕ) (r : Answer) → length o.sent ≤ length before → Encoded o.setting o.given before r after
    → (r ≡ o.answer) × Overwritten o.sent before after
Promised decoding o = (message message' sent sent' : List ℕ) (r : Answer) → length o.message ≤ length message → length o.sent ≤ length sent
    → Decoded o.setting o.given message sent r message' sent'
    → (r ≡ o.answer) × Overwritten o.message message message' × Overwritten o.sent sent sent'

abbrev pub OrderKept : Order → Type 0
OrderKept o = Promised o.call o

-- A message, given, and its transmission.
abbrev pub encodes : ℕ → List ℕ → List ℕ → Order
encodes setting message sent = record { call = encoding; setting = setting; given = message; answer = answer 0 0; message = message; sent = sent }

-- A reception, its message, the message's transmission, the altered count and the number of unknown symbols.
abbrev pub reads : ℕ → List ℕ → List ℕ → List ℕ → ℕ → ℕ → Order
reads setting reception message sent altered unknown =
    record { call = decoding; setting = setting; given = reception; answer = counted altered unknown; message = message; sent = sent }

-- A reception that gets number 7, and how many zeros come back in each area.
abbrev pub gets_seven : ℕ → List ℕ → ℕ → ℕ → Order
gets_seven setting reception message sent =
    record { call = decoding; setting = setting; given = reception; answer = answer 7 0; message = replicate message 0; sent = replicate sent 0 }
