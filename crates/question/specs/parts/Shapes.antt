-- The shapes of frames: what a call's questions find. Holds: `ReceptionOf`, `MessageOf`, `WovenOf`.
use Rattle.std.specs.Prelude.{◌≡◌, ℕ, ◌*◌, ◌/◌}
use Rattle.code.specs.Settings.{setting_of}
use Rattle.code.specs.parts.Residual.{frame_length}
use Rattle.code.specs.parts.SettingNumbers.{number_of}
use Rattle.question.specs.declared.shape.Shape.{Shape}
use Rattle.question.specs.declared.shape.WovenShape.{WovenShape}

-- The shape of a reception of this many symbols: with the setting of this number, T + m blocks of n.
pub record ReceptionOf (number long : ℕ) (s : Shape) : Type 0 where
  pub numbered : number_of s.setting ≡ number
  pub blocks : long ≡ frame_length (setting_of number) s.blocks

-- The shape of the frame of a message of this many symbols: T blocks of k.
pub record MessageOf (number long : ℕ) (s : Shape) : Type 0 where
  pub numbered : number_of s.setting ≡ number
  pub blocks : long ≡ s.blocks * (setting_of number).k

-- The shape of so many frames woven into this many symbols.
pub record WovenOf (number frames long : ℕ) (w : WovenShape) : Type 0 where
  pub count : w.frames ≡ frames
  pub whole : long ≡ long / frames * frames
  pub frame : ReceptionOf number (long / frames) w.frame
