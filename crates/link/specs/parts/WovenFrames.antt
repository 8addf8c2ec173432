-- What decoding one woven frame after another promises. Holds: `FramesTo`, the frames before one of them; `EachDecoded`, all of them.
use Rattle.std.specs.Prelude.{◌≡◌, List, ℕ, ◌*◌, ◌≤◌, ◌<◌, get_or, drop}
use Rattle.area.specs.Lists.{part_at}
use Rattle.code.specs.declared.Setting.{Setting}
use Rattle.code.specs.parts.Residual.{frame_length}
use Rattle.question.specs.declared.answer.Answer.{Answer}
use Rattle.question.specs.Questions.{answer}
use Rattle.weave.specs.parts.Columns.{column_of}
use Rattle.link.specs.declared.woven.WovenAnswer.{WovenAnswer}
use Rattle.link.specs.Decoding.{FrameDecoded}

-- The frames before `count` of D woven ones of T information blocks were decoded, each to its own part of both areas; nothing else was changed.
pub record FramesTo (p : Setting) (T D count : ℕ) (woven message transmitted : List ℕ) (answers : List Answer) (message' transmitted' : List ℕ) : Type 0 where
  pub frame : (f : ℕ) → f < count
      → FrameDecoded p T (column_of D f woven) (get_or answers f (answer 0 0)) (part_at (T * p.k) f message') (part_at (frame_length p T) f transmitted')
  pub no_frame : (f : ℕ) → count ≤ f → get_or answers f (answer 0 0) ≡ answer 0 0
  pub message_past : drop (count * (T * p.k)) message' ≡ drop (count * (T * p.k)) message
  pub transmission_past : drop (count * frame_length p T) transmitted' ≡ drop (count * frame_length p T) transmitted

-- All of them.
pub record EachDecoded (p : Setting) (T D : ℕ) (woven message transmitted : List ℕ) (r : WovenAnswer) (message' transmitted' : List ℕ) : Type 0 where
  pub answered : r.answer ≡ answer 0 0
  pub frames : FramesTo p T D D woven message transmitted r.frame message' transmitted'
