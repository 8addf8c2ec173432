-- A list of symbols as a sequence that goes on with zeros. Holds: `at`; `AllBelow`, every symbol below q.
use Rattle.std.specs.Prelude.{List, ℕ, ◌<◌, get_or}

-- A list as a sequence, 0 past its end.
abbrev pub at : List ℕ → ℕ → ℕ
at l i = get_or l i 0

-- Every symbol is below q; so is 0, past the end.
abbrev pub AllBelow : ℕ → List ℕ → Type 0
AllBelow q l = (i : ℕ) → get_or l i 0 < q
