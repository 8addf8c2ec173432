-- What is read off a spectrum.
-- Holds: `lacking`, `BlockRead`, `InformationRead`.
use Rattle.std.specs.Prelude.{List, ℕ, ◌-◌, ◌<◌}
use Rattle.algebra.specs.Ops.{sub}
use Rattle.algebra.specs.parts.Values.{falling}
use Rattle.area.specs.Lists.{view}
use Rattle.field.specs.Fields.{ops_of}
use Rattle.field.specs.parts.Sequences.{AllBelow, at}
use Rattle.code.specs.declared.Setting.{Setting}
use Rattle.code.specs.Generator.{times_g}
use Rattle.code.specs.parts.Recovery.{Recovered}
use Rattle.code.specs.Settings.{code_of}

-- Symbol k - j of an information block, and what x × G_0 lacks j places before its end.
abbrev pub lacking : Setting → List ℕ → ℕ → List ℕ → ℕ → ℕ
lacking p values point information j =
    (ops_of p.q).add (at information (p.k - j))
    (sub (ops_of p.q) ((ops_of p.q).neg (falling (ops_of p.q) p.k (at values) point)) (times_g (code_of p) (at information) 0 (p.n - j)))

-- The last `count` symbols of an information block were recovered from its values.
pub record BlockRead (p : Setting) (count : ℕ) (values information : List ℕ) : Type 0 where
  pub below : AllBelow p.q information
  pub recovered : Recovered (code_of p) (at values) count (at information)

-- So many information blocks were recovered, each from the values of its places.
pub record InformationRead (p : Setting) (blocks : ℕ) (values information : List ℕ) : Type 0 where
  pub below : AllBelow p.q information
  pub recovered : (b : ℕ) → b < blocks → Recovered (code_of p) (view p.k values b) p.k (view p.k information b)
