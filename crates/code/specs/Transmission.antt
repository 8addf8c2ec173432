-- The transmission of a message (01, "The transmission"; transmission: the codeword, message: the information word).
-- Holds: `earlier`, information block s - j; `sent_symbol`, symbol i of sent block s.
use Rattle.std.specs.Prelude.{ℕ, suc, ◌-◌, leb}
use Rattle.algebra.specs.Ops.{Ops, pick}
use Rattle.algebra.specs.Sum.{sum}
use Rattle.code.specs.Code.{Code}
use Rattle.code.specs.Generator.{times_g}

-- Information block s - j. Blocks before the first are zero.
abbrev pub earlier : {F : Type 0} → Ops F → (ℕ → ℕ → F) → ℕ → ℕ → ℕ → F
earlier o u s j r = pick (leb j s) (u (s - j) r) o.zero

-- "Sent block s is the sum over j of (information block s-j) × G_j": its symbol i, for the information blocks u.
unfoldable pub sent_symbol : {F : Type 0} → Code F → (ℕ → ℕ → F) → ℕ → ℕ → F
sent_symbol c u s i = sum c.ops (suc c.m) (λ j. times_g c (earlier c.ops u s j) j i)
