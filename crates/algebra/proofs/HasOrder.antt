-- An element α of order n: the powers α^0 .. α^(n-1) are distinct and α^n = 1; and n times 1 is -1, as in every field with n + 1 elements.
-- A hypothesis of what follows; each field proves it.
-- Holds: `HasOrder`.
use mathlib.Core.Path.{◌≡◌}
use Prim.Native.Nat.{ℕ, ◌<◌}
use Rattle.algebra.specs.Ops.{Ops}
use Rattle.algebra.specs.Sum.{sum, power}

pub record HasOrder {F : Type 0} (o : Ops F) (n : ℕ) (α : F) : Type 0 where
  pub distinct : (i j : ℕ) → i < n → j < n → power o α i ≡ power o α j → i ≡ j
  pub full : power o α n ≡ o.one
  pub ones : sum o n (λ i. o.one) ≡ o.neg o.one
