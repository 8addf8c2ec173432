-- What decoding's last steps promise: question 7, answered with the residual, and the transmission, restored from it.
-- Holds: `FrameAnswered`, `ReadFrom`, `Restored`.
use Rattle.std.specs.Prelude.{◌≡◌, true, List, ℕ, ◌*◌, ◌≤◌, ◌<◌, length, get_or, replicate}
use Rattle.algebra.specs.Ops.{sub}
use Rattle.field.specs.Fields.{ops_of}
use Rattle.code.specs.declared.Setting.{Setting}
use Rattle.code.specs.parts.Residual.{frame_length}
use Rattle.code.specs.Windows.{known_distance, unknown_in}
use Rattle.question.specs.declared.answer.Answer.{Answer}
use Rattle.question.specs.Questions.{answer, counted}
use Rattle.frame.specs.parts.Frame.{NoneFits, FrameRead}

-- What question 7 puts in both areas: the message and its residual, with the counts; or zeros.
pub data FrameAnswered (p : Setting) (T : ℕ) (reception : List ℕ) (r : Answer) (message residual : List ℕ) : Type 0 where
  read : FrameRead p T reception message residual true
      → r ≡ counted (known_distance p.q (T * p.n) (λ i. get_or residual i 0) (λ i. 0)) (unknown_in p T reception)
      → FrameAnswered p T reception r message residual
  none_read : NoneFits p T reception → r ≡ answer 7 0 → message ≡ replicate (T * p.k) 0 → residual ≡ replicate (frame_length p T) 0
      → FrameAnswered p T reception r message residual

-- The message of a frame of this length was read, and so many symbols are unknown in it.
pub record ReadFrom (p : Setting) (T unknown : ℕ) (reception message residual : List ℕ) : Type 0 where
  pub long : length reception ≡ frame_length p T
  pub lost : unknown ≡ unknown_in p T reception
  pub read : FrameRead p T reception message residual true

-- The first `count` places hold the reception less the residual there, the others what they held.
pub record Restored (q count : ℕ) (reception before after : List ℕ) : Type 0 where
  pub long : length after ≡ length before
  pub inside : (i : ℕ) → i < count → get_or after i 0 ≡ sub (ops_of q) (get_or reception i 0) (get_or before i 0)
  pub outside : (i : ℕ) → count ≤ i → get_or after i 0 ≡ get_or before i 0
