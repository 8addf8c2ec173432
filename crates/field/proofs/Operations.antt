-- What the code returns in each branch is the symbol that the field's operation gives.
-- Holds: `sum_modulo`, `sum_modulo_less`, `sum_xor`; `negative_modulo`, `negative_of_zero`, `negative_same`;
-- `is_product`, `product_listed`; `is_inverse`, `inverse_listed`; `good_small`, q is at most 256; `good_listed`, q is at most 16.
use mathlib.Core.Path.{◌≡◌, sym, ◌∙◌, subst}
use mathlib.Core.List.{List, []}
use Prim.Native.Nat.{ℕ, ◌+◌, ◌-◌, ◌%◌, ◌<◌, ◌≤◌}
use native.Mathlib.Omega.{arith}
use lib.Bits.{bit_xor}
use lib.ListN.{get_or}
use Rattle.field.specs.Modular.{modular}
use Rattle.field.specs.parts.Operations.{Good, Is}
use Rattle.field.specs.Fields.{five, ops_of}
use Rattle.field.specs.parts.Products.{ProductsOf}
use Rattle.field.proofs.Laws.{lawful, laws_of}

-- The operations with five elements.
module _ (q : ℕ) (e : q ≡ 5) where
  add_modulo : (a b : ℕ) → (ops_of q).add a b ≡ (a + b) % 5
  unfolding ops_of five modular
  add_modulo a b = rw e

  neg_modulo : (a : ℕ) → (ops_of q).neg a ≡ (5 - a) % 5
  unfolding ops_of five modular
  neg_modulo a = rw e

-- Every symbol is the number of a row of the table, and of a place in it.
pub good_listed : (q : ℕ) → Good q → q ≤ 16
good_listed q good = (lawful q good).small

-- Every symbol is a byte.
pub good_small : (q : ℕ) → Good q → q ≤ 256
good_small q good = omega (arith, good_listed q good)

symbol : (q r v : ℕ) → r ≡ v → v < q → Is q r v
symbol q r v e h = record { same = e; below = subst (λ (x : ℕ). x < q) (sym e) h }

module _ (q a b : ℕ) (good : Good q) (ha : a < q) (hb : b < q) where
  is_sum : (r : ℕ) → r ≡ (ops_of q).add a b → Is q r ((ops_of q).add a b)
  is_sum r e = symbol q r ((ops_of q).add a b) e ((laws_of q good).add_below a b ha hb)

  pub is_product : (r : ℕ) → r ≡ (ops_of q).mul a b → Is q r ((ops_of q).mul a b)
  is_product r e = symbol q r ((ops_of q).mul a b) e ((laws_of q good).mul_below a b ha hb)

  pub sum_xor : (q ≡ 5 → ⊥) → Is q (bit_xor a b) ((ops_of q).add a b)
  sum_xor other = is_sum (bit_xor a b) (sym ((lawful q good).sums other a b))

  pub sum_modulo : q ≡ 5 → a + b < 5 → Is q (a + b) ((ops_of q).add a b)
  sum_modulo e h = let small : a + b ≡ (a + b) % 5 = omega arith in is_sum (a + b) (small ∙ sym (add_modulo q e a b))

  pub sum_modulo_less : q ≡ 5 → 5 ≤ a + b → Is q (a + b - 5) ((ops_of q).add a b)
  sum_modulo_less e h = let less : a + b - 5 ≡ (a + b) % 5 = omega arith in is_sum (a + b - 5) (less ∙ sym (add_modulo q e a b))

  pub product_listed : (products : List (List ℕ)) → ProductsOf q products → Is q (get_or (get_or products a []) b 0) ((ops_of q).mul a b)
  product_listed products lent = is_product (get_or (get_or products a []) b 0) ((lent.row a ha).product b hb)

module _ (q a : ℕ) (good : Good q) (ha : a < q) where
  is_negative : (r : ℕ) → r ≡ (ops_of q).neg a → Is q r ((ops_of q).neg a)
  is_negative r e = symbol q r ((ops_of q).neg a) e ((laws_of q good).neg_below a ha)

  pub negative_same : (q ≡ 5 → ⊥) → Is q a ((ops_of q).neg a)
  negative_same other = is_negative a (sym ((lawful q good).negatives other a))

  pub negative_of_zero : q ≡ 5 → a ≡ 0 → Is q 0 ((ops_of q).neg a)
  negative_of_zero e z = let none : 0 ≡ (5 - a) % 5 = omega arith in is_negative 0 (none ∙ sym (neg_modulo q e a))

  pub negative_modulo : q ≡ 5 → (a ≡ 0 → ⊥) → Is q (5 - a) ((ops_of q).neg a)
  negative_modulo e z = let rest : 5 - a ≡ (5 - a) % 5 = omega arith in is_negative (5 - a) (rest ∙ sym (neg_modulo q e a))

  pub is_inverse : (r : ℕ) → r ≡ (ops_of q).inv a → Is q r ((ops_of q).inv a)
  is_inverse r e = symbol q r ((ops_of q).inv a) e ((laws_of q good).inv_below a ha)

  pub inverse_listed : (products : List (List ℕ)) → ProductsOf q products → Is q (get_or (get_or products 16 []) a 0) ((ops_of q).inv a)
  inverse_listed products lent = is_inverse (get_or (get_or products 16 []) a 0) (lent.inverses.inverse a ha)
