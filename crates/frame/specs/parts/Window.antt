-- One turn of reading (01, "Reading a reception"), at a window by itself.
-- Holds: `Near`, `rebuilt_term`, `cost_before`, `LevelTried` (one level), `LevelSearch` (all levels).
use Rattle.std.specs.Prelude.{◌≡◌, Option, Some, None, List, ℕ, ◌+◌, ◌≤◌, ◌<◌, get_or}
use Rattle.algebra.specs.Weight.{total}
use Rattle.area.specs.Lists.{view}
use Rattle.field.specs.parts.Sequences.{AllBelow}
use Rattle.code.specs.declared.Setting.{Setting}
use Rattle.code.specs.Code.{level_distance, distances_to}
use Rattle.code.specs.parts.InformationBlocks.{BlocksBelow}
use Rattle.code.specs.parts.Cost.{level_cost, window_cost}
use Rattle.frame.specs.declared.window.Found.{Found}

-- Blocks 0 .. l of the window are near what y rebuilds: "in at most half of (d_0 + .. + d_l - 1), rounded down", symbols they differ, without the rounding.
abbrev pub Near : Setting → List ℕ → ℕ → (ℕ → ℕ → ℕ) → Type 0
Near p window l y = window_cost p window l y < distances_to p.n p.k l

-- What block s of the window costs against the one rebuilt from y, and what the blocks before block l cost.
abbrev pub rebuilt_term : Setting → List ℕ → (ℕ → ℕ → ℕ) → ℕ → ℕ
rebuilt_term p window y s = level_cost p (view p.n window s) s y

abbrev pub cost_before : Setting → List ℕ → ℕ → (ℕ → ℕ → ℕ) → ℕ
cost_before p window l y = total l (rebuilt_term p window y)

-- A level serves with information that rebuilds near blocks; or it does not, and block l of every near y is itself far.
pub data LevelTried (p : Setting) (window : List ℕ) (l : ℕ) : Option (List ℕ) → Type 0 where
  serves : {information : List ℕ} → AllBelow p.q information → Near p window l (view p.k information) → LevelTried p window l (Some information)
  fails : ((y : ℕ → ℕ → ℕ) → BlocksBelow p.q y → Near p window l y
      → level_distance p.n p.k l ≤ level_cost p (view p.n window l) l y) → LevelTried p window l None

-- The information near a window, so many blocks: every near y begins with it; or none, and no y is near.
pub data LevelSearch (p : Setting) (window : List ℕ) : Option Found → Type 0 where
  served : {found : Found} → 1 ≤ found.blocks → found.blocks ≤ p.m + 1 → AllBelow p.q found.information
      → ((y : ℕ → ℕ → ℕ) → BlocksBelow p.q y → Near p window p.m y → (r : ℕ) → r < p.k → y 0 r ≡ get_or found.information r 0)
      → LevelSearch p window (Some found)
  none_serves : ((y : ℕ → ℕ → ℕ) → BlocksBelow p.q y → Near p window p.m y → ⊥) → LevelSearch p window None
