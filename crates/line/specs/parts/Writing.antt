-- What the functions that write an answer promise and ask of one another. Holds: `Placed`, `WrittenBehind`.
use Rattle.std.specs.Prelude.{◌≡◌, List, ◌++◌, ℕ, ◌≤◌, length}
use Rattle.area.specs.Lists.{overwritten}

-- A text at the front of an area, and then what the area held before.
pub record Placed (text before after : List ℕ) : Type 0 where
  pub is : after ≡ overwritten text before
  pub room : length text ≤ length before

-- A part written from this place on: behind whatever text ends there.
pub record WrittenBehind (from : ℕ) (part before after : List ℕ) : Type 0 where
  pub long : length after ≡ length before
  pub behind : {done start : List ℕ} → length done ≡ from → Placed done start before → Placed (done ++ part) start after
