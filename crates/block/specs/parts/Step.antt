-- The block step's promise (01, "find the level-l code block within (d_l - 1)/2, rounded down, symbols"; a cost below d_l in place of halves rounded down; and
-- 02, request 105: "beside the code block, a mark for each touched symbol"). For a received block and a level either the information of a combination that is
-- near and the marks of the symbols it repairs, or that none is near, and no mark.
-- Holds: `InformationTo`, `Step`.
use Rattle.std.specs.Prelude.{◌≡◌, Option, Some, None, List, ℕ, ◌≤◌, ◌<◌, replicate}
use Rattle.area.specs.Lists.{view}
use Rattle.field.specs.parts.Sequences.{at, AllBelow}
use Rattle.code.specs.declared.Setting.{Setting}
use Rattle.code.specs.Code.{level_distance}
use Rattle.code.specs.parts.Cost.{level_cost}
use Rattle.block.specs.parts.Marking.{repair_marks}

-- x_0 .. x_l are information blocks: k symbols below q each.
abbrev pub InformationTo : Setting → ℕ → (ℕ → ℕ → ℕ) → Type 0
InformationTo p l x = (b r : ℕ) → b ≤ l → r < p.k → x b r < p.q

-- near: the l+1 information blocks that were found, symbols below q, combine to a block at a cost of less than d_l, and the marks are those of the repair to it;
-- far: none was found, and every information costs d_l or more; "Where no code block is near enough, no mark is set".
pub data Step (p : Setting) (l : ℕ) (block marks : List ℕ) : Option (List ℕ) → Type 0 where
  near : {information : List ℕ} → AllBelow p.q information
      → level_cost p (at block) l (view p.k information) < level_distance p.n p.k l
      → marks ≡ repair_marks p block l (view p.k information) → Step p l block marks (Some information)
  far : ((x : ℕ → ℕ → ℕ) → InformationTo p l x → level_distance p.n p.k l ≤ level_cost p (at block) l x)
      → marks ≡ replicate p.n 0 → Step p l block marks None
