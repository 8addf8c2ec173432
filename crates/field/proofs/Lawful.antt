-- What is known of a field in use, whatever its number of elements. Holds: `Lawful`.
use mathlib.Core.Path.{◌≡◌}
use Prim.Native.Nat.{ℕ, ◌-◌, ◌≤◌}
use lib.Bits.{bit_xor}
use Rattle.algebra.specs.Ops.{Ops}
use Rattle.algebra.proofs.Below.{FieldBelow, OrderBelow}
use Rattle.field.specs.Fields.{alpha}

-- Its laws and the order of α; every symbol is the number of a row of the table of products, and of a place in it; as the code adds: modulo 5 with five
-- elements, else by exclusive or.
pub record Lawful (q : ℕ) (o : Ops ℕ) : Type 0 where
  pub laws : FieldBelow q o
  pub order : OrderBelow q o (q - 1) alpha
  pub small : q ≤ 16
  pub sums : (q ≡ 5 → ⊥) → (a b : ℕ) → o.add a b ≡ bit_xor a b
  pub negatives : (q ≡ 5 → ⊥) → (a : ℕ) → o.neg a ≡ a
