-- What the questions of a line find. Holds: `head_of`, `HeadOf`, `FrameOf`.
use Rattle.std.specs.Prelude.{◌≡◌, List, ℕ}
use Rattle.code.specs.parts.SettingNumbers.{number_of}
use Rattle.line.specs.declared.head.LineShape.{LineShape}
use Rattle.line.specs.Heads.{Head, head_in}
use Rattle.line.specs.Questions.{HoldsFrame}

-- The head of a line of this shape.
abbrev pub head_of : LineShape → Head
head_of s = record { form = s.form; setting = number_of s.frame.setting; blocks = s.frame.blocks }

-- The shape that a line's head gives.
abbrev pub HeadOf : List ℕ → LineShape → Type 0
HeadOf line s = head_of s ≡ head_in line

-- The shape of the frame that a line holds.
pub record FrameOf (line : List ℕ) (s : LineShape) : Type 0 where
  pub holds : HoldsFrame line
  pub head : HeadOf line s
