-- Sequences of information blocks. Holds: `BlocksBelow`, `only`.
use Rattle.std.specs.Prelude.{ℕ, ◌<◌, eqb}
use Rattle.algebra.specs.Ops.{pick}

-- A sequence of information blocks has symbols below q.
abbrev pub BlocksBelow : ℕ → (ℕ → ℕ → ℕ) → Type 0
BlocksBelow q y = (s r : ℕ) → y s r < q

-- The information block with the one symbol v, at place r.
abbrev pub only : ℕ → ℕ → ℕ → ℕ
only r v a = pick (eqb a r) v 0
