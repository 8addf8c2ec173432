-- The bridge from the numbers below q to the abstract carrier. A concrete field proves its laws once, for numbers below q (`FieldBelow`);
-- the pairs of a number and a proof that it is below q are then a field (`field_below`), and taking the number keeps the operations (`number_keeps`).
-- Holds: `FieldBelow`, `positive`, `OrderBelow`, `Element`, `number`, `element`, `field_below`, `number_keeps`, `number_injective`, `number_element`,
-- `number_power`, `order_below`.
use mathlib.Core.Path.{◌≡◌, refl, sym, ap, subst, ◌∙◌}
use mathlib.Core.HLevel.{Σ_prop_path}
use mathlib.Core.Bool.{Bool, true, false}
use Prim.Native.Nat.{ℕ, suc, ◌<◌, ◌%◌}
use native.Mathlib.Nat.{mod-lt, mod-eq_of_lt}
use native.Mathlib.Bridge.{le_prop}
use native.Mathlib.Omega.{arith}
use lib.Dec.{eqb}
use borrow.Author.Tests.{eqb-true, eqb-false}
use Rattle.algebra.specs.Ops.{Ops}
use Rattle.algebra.specs.Sum.{sum, power}
use Rattle.algebra.proofs.Laws.{Field, Tested, the_zero, non_zero}
use Rattle.algebra.proofs.HasOrder.{HasOrder}
use Rattle.algebra.proofs.Naturality.{Homomorphism, power_natural, sum_natural}

-- The laws of a field on the numbers below q.
pub record FieldBelow (q : ℕ) (o : Ops ℕ) : Type 0 where
  pub zero_is : o.zero ≡ 0
  pub one_is : o.one ≡ 1
  pub test_is : (a : ℕ) → o.is_zero a ≡ eqb a 0
  pub one_below : 1 < q
  pub add_below : (a b : ℕ) → a < q → b < q → o.add a b < q
  pub neg_below : (a : ℕ) → a < q → o.neg a < q
  pub mul_below : (a b : ℕ) → a < q → b < q → o.mul a b < q
  pub inv_below : (a : ℕ) → a < q → o.inv a < q
  pub plus_assoc : (a b c : ℕ) → a < q → b < q → c < q → o.add (o.add a b) c ≡ o.add a (o.add b c)
  pub plus_comm : (a b : ℕ) → a < q → b < q → o.add a b ≡ o.add b a
  pub plus_zero : (a : ℕ) → a < q → o.add a 0 ≡ a
  pub plus_neg : (a : ℕ) → a < q → o.add a (o.neg a) ≡ 0
  pub times_assoc : (a b c : ℕ) → a < q → b < q → c < q → o.mul (o.mul a b) c ≡ o.mul a (o.mul b c)
  pub times_comm : (a b : ℕ) → a < q → b < q → o.mul a b ≡ o.mul b a
  pub times_one : (a : ℕ) → a < q → o.mul a 1 ≡ a
  pub distributes : (a b c : ℕ) → a < q → b < q → c < q → o.mul a (o.add b c) ≡ o.add (o.mul a b) (o.mul a c)
  pub inverse : (a : ℕ) → a < q → (a ≡ 0 → ⊥) → o.mul a (o.inv a) ≡ 1

pub positive : {q : ℕ} {o : Ops ℕ} → FieldBelow q o → 0 < q
positive B = omega (arith, B.one_below)

-- The number α has order n: α^0 .. α^(n-1) are distinct, each number below q but 0 is one of them, and α^n = 1; n times 1 is -1.
pub record OrderBelow (q : ℕ) (o : Ops ℕ) (n α : ℕ) : Type 0 where
  pub root_below : α < q
  pub distinct : (i j : ℕ) → i < n → j < n → power o α i ≡ power o α j → i ≡ j
  pub reached : (a : ℕ) → a < q → (a ≡ 0 → ⊥) → (i : ℕ) × (i < n) × (power o α i ≡ a)
  pub full : power o α n ≡ 1
  pub ones : sum o n (λ i. 1) ≡ o.neg 1

abbrev pub Element : ℕ → Type 0
Element q = (a : ℕ) × (a < q)

abbrev pub number : {q : ℕ} → Element q → ℕ
number a = a.0

-- An element is its number.
pub number_injective : {q : ℕ} (a b : Element q) → number a ≡ number b → a ≡ b
number_injective {q} a b e = Σ_prop_path (λ (k : ℕ). le_prop {n = suc k} {m = q}) {u = a} {v = b} e

-- The element with the number a, for a below q.
pub element : (q : ℕ) → 0 < q → ℕ → Element q
element q h a = (a % q, mod-lt a h)

pub number_element : (q : ℕ) (h : 0 < q) (a : ℕ) → a < q → number (element q h a) ≡ a
unfolding element
number_element q h a l = mod-eq_of_lt l

module _ (q : ℕ) (o : Ops ℕ) (B : FieldBelow q o) where
  ops_below : Ops (Element q)
  ops_below =
      record {
        zero = (o.zero, subst (λ (z : ℕ). z < q) (sym B.zero_is) (omega (arith, B.one_below)));
        one = (o.one, subst (λ (z : ℕ). z < q) (sym B.one_is) B.one_below);
        add = λ a b. (o.add a.0 b.0, B.add_below a.0 b.0 a.1 b.1);
        neg = λ a. (o.neg a.0, B.neg_below a.0 a.1);
        mul = λ a b. (o.mul a.0 b.0, B.mul_below a.0 b.0 a.1 b.1);
        inv = λ a. (o.inv a.0, B.inv_below a.0 a.1);
        is_zero = λ a. o.is_zero a.0;
      }

  test_below : (a : Element q) → Tested ops_below.zero a (ops_below.is_zero a)
  unfolding ops_below
  test_below a = at (eqb a.0 0) refl
    where
      at : (t : Bool) → eqb a.0 0 ≡ t → Tested ops_below.zero a (o.is_zero a.0)
      at true e =
          subst (Tested ops_below.zero a) (sym (B.test_is a.0 ∙ e))
          (the_zero (number_injective a ops_below.zero (eqb-true a.0 0 e ∙ sym B.zero_is)))
      at false e =
          subst (Tested ops_below.zero a) (sym (B.test_is a.0 ∙ e))
          (non_zero (λ z. eqb-false a.0 0 e (ap number z ∙ B.zero_is)))

  -- The numbers below q are a field.
  pub field_below : Field (Element q)
  unfolding ops_below
  field_below =
      record {
        ops = ops_below;
        plus_assoc = λ a b c. number_injective _ _ (B.plus_assoc a.0 b.0 c.0 a.1 b.1 c.1);
        plus_comm = λ a b. number_injective _ _ (B.plus_comm a.0 b.0 a.1 b.1);
        plus_zero = λ a. number_injective _ _ (ap (o.add a.0) B.zero_is ∙ B.plus_zero a.0 a.1);
        plus_neg = λ a. number_injective _ _ (B.plus_neg a.0 a.1 ∙ sym B.zero_is);
        times_assoc = λ a b c. number_injective _ _ (B.times_assoc a.0 b.0 c.0 a.1 b.1 c.1);
        times_comm = λ a b. number_injective _ _ (B.times_comm a.0 b.0 a.1 b.1);
        times_one = λ a. number_injective _ _ (ap (o.mul a.0) B.one_is ∙ B.times_one a.0 a.1);
        distributes = λ a b c. number_injective _ _ (B.distributes a.0 b.0 c.0 a.1 b.1 c.1);
        inverse = λ a h. number_injective _ _ (B.inverse a.0 a.1 (λ e. h (number_injective _ _ (e ∙ sym B.zero_is))) ∙ sym B.one_is);
        one_nonzero = λ e. omega (arith, sym B.one_is ∙ ap number e ∙ B.zero_is);
        tested = test_below;
      }

  pub number_keeps : Homomorphism field_below.ops o number
  unfolding field_below ops_below
  number_keeps =
      record {
        on_zero = refl;
        on_one = refl;
        on_add = λ a b. refl;
        on_neg = λ a. refl;
        on_mul = λ a b. refl;
        on_inv = λ a. refl;
        on_test = λ a. refl;
      }

  pub number_power : (α : ℕ) (h : 0 < q) → α < q → (i : ℕ) → number (power field_below.ops (element q h α) i) ≡ power o α i
  number_power α h l i =
      power_natural field_below.ops o number number_keeps (element q h α) i ∙ ap (λ (a : ℕ). power o a i) (number_element q h α l)

  -- The order of a number is that of its element.
  pub order_below : (n α : ℕ) (h : 0 < q) → OrderBelow q o n α → HasOrder field_below.ops n (element q h α)
  order_below n α h A =
      record {
        distinct = λ i j l s e. A.distinct i j l s (sym (at i) ∙ ap number e ∙ at j);
        full = number_injective _ _ (at n ∙ A.full ∙ sym (number_keeps.on_one ∙ B.one_is));
        ones = number_injective _ _ (sum_natural field_below.ops o number number_keeps n (λ i. field_below.ops.one)
            ∙ ap (λ (t : ℕ). sum o n (λ i. t)) (number_keeps.on_one ∙ B.one_is) ∙ A.ones
            ∙ sym (number_keeps.on_neg field_below.ops.one ∙ ap o.neg (number_keeps.on_one ∙ B.one_is)));
      }
    where
      at : (i : ℕ) → number (power field_below.ops (element q h α) i) ≡ power o α i
      at = number_power α h A.root_below
