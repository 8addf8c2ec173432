-- What the encoder's inner functions require of each other. Holds: `SentTo`.
use Rattle.std.specs.Prelude.{◌≡◌, List, ℕ, ◌≤◌, ◌<◌, get_or}
use Rattle.code.specs.declared.Setting.{Setting}
use Rattle.code.specs.Windows.{transmission}
use Rattle.code.specs.parts.Residual.{IsResidual}
use Rattle.frame.specs.parts.Frame.{FrameAreas}

-- The message's first `count` symbols were sent: the area holds its transmission less that of the rest, the message with zeros in their places.
pub record SentTo (p : Setting) (T : ℕ) (message : List ℕ) (count : ℕ) (area : List ℕ) : Type 0 where
  pub rest : List ℕ
  pub areas : FrameAreas p T 0 rest area
  pub sent : (i : ℕ) → i < count → get_or rest i 0 ≡ 0
  pub unsent : (i : ℕ) → count ≤ i → get_or rest i 0 ≡ get_or message i 0
  pub is_residual : IsResidual p T (transmission p message) rest area
