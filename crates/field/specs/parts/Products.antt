-- What functions that multiply or invert require: of the two lists that are read-only (02's request 103, which replaces 01's "table of sixty-four entries"),
-- and of the table of products and inverses that a call makes from them in its working memory and lends down. Callers only pass the table on.
-- Holds: `ListsOf`; `MultiplesOf`, `InversesOf`, `Products` (the shape of the table), `ProductsOf`.
use Rattle.std.specs.Prelude.{◌≡◌, List, [], ℕ, ◌-◌, ◌<◌, length, get_or}
use Rattle.algebra.specs.Sum.{power}
use Rattle.field.specs.Fields.{alpha, ops_of}
use Rattle.field.specs.parts.Sequences.{at}

-- "the list of powers and their exponents" of the field with q elements: place i of the first holds α^i, and the exponent of α^i is i.
-- 0 is no power of α: of its place in the second nothing is said.
pub record ListsOf (q : ℕ) (powers exponents : List ℕ) : Type 0 where
  pub powers_count : length powers ≡ q - 1
  pub exponents_count : length exponents ≡ q
  pub power_at : (i : ℕ) → i < q - 1 → at powers i ≡ power (ops_of q) alpha i
  pub exponent_at : (i : ℕ) → i < q - 1 → at exponents (power (ops_of q) alpha i) ≡ i

-- The row holds a × b at place b.
pub record MultiplesOf (q a : ℕ) (row : List ℕ) : Type 0 where
  pub product : (b : ℕ) → b < q → at row b ≡ (ops_of q).mul a b

-- The row holds 1/a at place a, and 0 at place 0.
pub record InversesOf (q : ℕ) (row : List ℕ) : Type 0 where
  pub inverse : (a : ℕ) → a < q → at row a ≡ (ops_of q).inv a

-- Row after row.
abbrev pub Products : Type 0
Products = List (List ℕ)

-- Row a of the table holds the multiples of a; the row after those of sixteen symbols, the most that a field has, holds the inverses.
pub record ProductsOf (q : ℕ) (products : Products) : Type 0 where
  pub row : (a : ℕ) → a < q → MultiplesOf q a (get_or products a [])
  pub inverses : InversesOf q (get_or products 16 [])
