-- The operations of a field, with no laws: what every definition of the product is written over.
-- At the natural numbers the definitions compute; over an abstract carrier the laws are those of `proofs/Laws.antt`.
-- Holds: `Ops`, its subtraction `sub`, the choice `pick`.
use Rattle.std.specs.Prelude.{Bool, true, false}

pub record Ops (F : Type 0) : Type 0 where
  pub zero : F
  pub one : F
  pub add : F → F → F
  pub neg : F → F
  pub mul : F → F → F
  pub inv : F → F
  pub is_zero : F → Bool

abbrev pub sub : {F : Type 0} → Ops F → F → F → F
sub o a b = o.add a (o.neg b)

-- The first where the test holds, else the second.
abbrev pub pick {ℓ} : {A : Type ℓ} → Bool → A → A → A
pick true a b = a
pick false a b = b
