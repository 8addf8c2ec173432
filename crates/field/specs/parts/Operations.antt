-- What functions on symbols ask of q, and what they promise. Holds: `is_field`, `Good` (the q in use); `Is` (a result that is a given symbol).
use Rattle.std.specs.Prelude.{◌≡◌, Bool, false, ◌||◌, List, [], ◌∷◌, ℕ, ◌<◌, T as Passes, eqb}
use Rattle.field.specs.Fields.{FieldEntry, fields}

-- Whether a field of the list has q elements.
abbrev pub is_field : ℕ → List FieldEntry → Bool
is_field q [] = false
is_field q (f ∷ rest) = eqb q f.elements || is_field q rest

-- q is the number of elements of one of the fields.
pub record Good (q : ℕ) : Type 0 where
  pub listed : Passes (is_field q fields)

-- The result r is the symbol v.
pub record Is (q r v : ℕ) : Type 0 where
  pub same : r ≡ v
  pub below : r < q
