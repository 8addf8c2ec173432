-- What is known of the field with q elements, for every q in use. Holds: `lawful`, from one entry for each field of the list; of it `laws_of` and `order_of`;
-- `zero_below`, `alpha_below`.
use mathlib.Core.Path.{◌≡◌, refl, sym, subst}
use mathlib.Core.Bool.{Bool, true, false, ◌||◌}
use mathlib.Core.List.{List, [], ◌∷◌}
use Prim.Native.Nat.{ℕ, ◌<◌, ◌-◌}
use native.Mathlib.Omega.{arith}
use lib.Dec.{T as Passes, eqb}
use borrow.Author.Tests.{eqb-true}
use Rattle.algebra.proofs.Below.{FieldBelow, OrderBelow}
use Rattle.field.specs.Modular.{modular}
use Rattle.field.specs.Binary.{binary}
use Rattle.field.specs.parts.Operations.{is_field, Good}
use Rattle.field.specs.Fields.{FieldEntry, five, eight, sixteen, alpha, fields, ops_of}
use Rattle.field.proofs.Lawful.{Lawful}
use Rattle.field.proofs.Five.{five_lawful}
use Rattle.field.proofs.Eight.{eight_lawful}
use Rattle.field.proofs.Sixteen.{sixteen_lawful}

abbrev EachLawful : List FieldEntry → Type 0
EachLawful [] = Unit {0}
EachLawful (f ∷ rest) = Lawful f.elements (ops_of f.elements) × EachLawful rest

-- The fields in use.
each_lawful : EachLawful fields
unfolding ops_of five eight sixteen modular binary
each_lawful = (five_lawful, (eight_lawful, (sixteen_lawful, tt)))

lawful_in : (l : List FieldEntry) → EachLawful l → (q : ℕ) → Passes (is_field q l) → Lawful q (ops_of q)
lawful_in [] each q t = absurd t
lawful_in (f ∷ rest) each q t = decide (lawful_in rest each.1 q) (eqb q f.elements) refl t
  where
    decide : (Passes (is_field q rest) → Lawful q (ops_of q)) → (b : Bool) → eqb q f.elements ≡ b → Passes (b || is_field q rest) → Lawful q (ops_of q)
    decide later true e t = subst (λ (x : ℕ). Lawful x (ops_of x)) (sym (eqb-true q f.elements e)) each.0
    decide later false e t = later t

pub lawful : (q : ℕ) → Good q → Lawful q (ops_of q)
lawful q good = lawful_in fields each_lawful q good.listed

pub laws_of : (q : ℕ) → Good q → FieldBelow q (ops_of q)
laws_of q good = (lawful q good).laws

pub order_of : (q : ℕ) → Good q → OrderBelow q (ops_of q) (q - 1) alpha
order_of q good = (lawful q good).order

pub zero_below : (q : ℕ) → Good q → 0 < q
zero_below q good = omega (arith, (laws_of q good).one_below)

pub alpha_below : (q : ℕ) → Good q → alpha < q
alpha_below q good = (order_of q good).root_below
