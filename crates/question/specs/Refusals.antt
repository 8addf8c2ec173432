-- "When an answer is an enum, a definition sets out this paper's number and values for each of its cases": the refusals' numbers and places, and the answers
-- that calls' outcomes stand for. Holds: `number_of`, `place_of`, `answered`, `asked`.
use Rattle.std.specs.Prelude.{ℕ, Result, Ok, Err}
use Rattle.question.specs.declared.refusal.Refusal.{Refusal}
use Rattle.question.specs.declared.refusal.Refusal.TheVariants.{UnknownSetting, FrameLength, TooManyBlocks, NoSymbol, MessageRoom, TransmissionRoom, NoneFits}
use Rattle.question.specs.declared.refusal.Refusal.TheVariants.{MessageLength, WrongCharacter, LineLength, LineTooLong, NoWindow, LengthsDiffer, FrameCount}
use Rattle.question.specs.declared.refusal.Refusal.TheVariants.{UnevenFrames}
use Rattle.question.specs.declared.answer.Answer.{Answer}
use Rattle.question.specs.declared.answer.Counts.{Counts}
use Rattle.question.specs.Questions.{answer, counted}

-- The number of the question that gets "no".
abbrev pub number_of : Refusal → ℕ
number_of UnknownSetting = 1
number_of FrameLength = 2
number_of TooManyBlocks = 3
number_of (NoSymbol place) = 4
number_of MessageRoom = 5
number_of TransmissionRoom = 6
number_of NoneFits = 7
number_of MessageLength = 8
number_of (WrongCharacter place) = 9
number_of LineLength = 10
number_of LineTooLong = 11
number_of NoWindow = 12
number_of LengthsDiffer = 13
number_of FrameCount = 14
number_of UnevenFrames = 15

-- "The place is 0 unless named."
abbrev pub place_of : Refusal → ℕ
place_of (NoSymbol place) = place
place_of (WrongCharacter place) = place
place_of refusal = 0

-- The answer of a call that gives counts, or refuses.
abbrev pub answered : Result Counts Refusal → Answer
answered (Ok counts) = counted counts.altered counts.unknown
answered (Err refusal) = answer (number_of refusal) (place_of refusal)

-- The answer of a call that gives something else, or refuses.
abbrev pub asked : {T : Type 0} → Result T Refusal → Answer
asked (Ok x) = answer 0 0
asked (Err refusal) = answer (number_of refusal) (place_of refusal)
