-- What the functions of a setting's sizes ask of it, and what tables know of theirs. Holds: `Sound`.
use Rattle.std.specs.Prelude.{◌≡◌, ◌+◌, ◌-◌, ◌*◌, ◌≤◌}
use Rattle.field.specs.parts.Operations.{Good}
use Rattle.code.specs.declared.Setting.{Setting}

-- What a setting satisfies; all that is proved of the settings follows from it. The field is one of ours, a block has one symbol for each nonzero
-- element, information blocks are not empty, and level m has room.
pub record Sound (p : Setting) : Type 0 where
  pub good : Good p.q
  pub block : p.n ≡ p.q - 1
  pub information : 1 ≤ p.k
  pub room : (p.m + 1) * p.k ≤ p.n
