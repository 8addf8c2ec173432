-- Products and inverses by exponents: from what the two lists hold (`ListsOf`) they follow by law, and no pair is tested.
-- Holds: `product_of_zero`, `product_by_zero`, `product_summed`, the product in each branch of the code (`Summed`); `own_inverse`, `inverse_completed`, the
-- inverse in each branch (`Completed`); `lists_by_tests`, what a field's lists hold, by one test for each entry.
use mathlib.Core.Path.{◌≡◌, sym, ap, ap₂, ◌∙◌, subst}
use mathlib.Core.List.{List}
use Prim.Native.Nat.{ℕ, zero, suc, ◌+◌, ◌-◌, ◌<◌, ◌≤◌}
use native.Mathlib.Omega.{arith}
use lib.Dec.{T, eqb, eqb→eq}
use lib.ListN.{length}
use Rattle.algebra.specs.Sum.{power}
use Rattle.algebra.proofs.Laws.{Field, zero-mul}
use Rattle.algebra.proofs.HasOrder.{HasOrder}
use Rattle.algebra.proofs.Powers.{power_add, power_wraps}
use Rattle.algebra.proofs.Below.{Element, number, element, field_below, number_keeps, number_power, order_below}
use Rattle.algebra.proofs.Tests.{all, same}
use Rattle.field.specs.Fields.{alpha, fields, ops_of}
use Rattle.field.specs.parts.Operations.{is_field, Good, Is}
use Rattle.field.specs.parts.Products.{ListsOf}
use Rattle.field.specs.parts.Sequences.{at}
use Rattle.field.proofs.Laws.{laws_of, order_of, zero_below, alpha_below}
use Rattle.field.proofs.Numbers.{inverse_none}
use Rattle.field.proofs.Operations.{is_product, is_inverse}

-- The product is the power at s, a sum of two exponents, counted round the list.
pub record Summed (q : ℕ) (powers : List ℕ) (s product : ℕ) : Type 0 where
  pub below : s < q - 1 + (q - 1)
  pub short : s < q - 1 → Is q (at powers s) product
  pub long : q - 1 ≤ s → Is q (at powers (s - (q - 1))) product

-- The inverse is the power at the exponent that completes e to q - 1.
pub record Completed (q : ℕ) (powers : List ℕ) (e inverse : ℕ) : Type 0 where
  pub positive : 0 < e
  pub below : e < q - 1
  pub listed : Is q (at powers (q - 1 - e)) inverse

module _ (q : ℕ) (good : Good q) where
  abbrev times : ℕ → ℕ → ℕ
  times = (ops_of q).mul

  abbrev α^ : ℕ → ℕ
  α^ i = power (ops_of q) alpha i

  -- The field's elements and α among them, to cite the laws of powers.
  abbrev K : Field (Element q)
  K = field_below q (ops_of q) (laws_of q good)

  abbrev root : Element q
  root = element q (zero_below q good) alpha

  ordered : HasOrder K.ops (q - 1) root
  ordered = order_below q (ops_of q) (laws_of q good) (q - 1) alpha (zero_below q good) (order_of q good)

  is_power : (i : ℕ) → number (power K.ops root i) ≡ α^ i
  is_power = number_power q (ops_of q) (laws_of q good) alpha (zero_below q good) (alpha_below q good)

  power_below : (i : ℕ) → α^ i < q
  power_below i = subst (λ (a : ℕ). a < q) (is_power i) (power K.ops root i).1

  times_powers : (i j : ℕ) → times (α^ i) (α^ j) ≡ α^ (i + j)
  times_powers i j =
      sym ((number_keeps q (ops_of q) (laws_of q good)).on_mul (power K.ops root i) (power K.ops root j) ∙ ap₂ times (is_power i) (is_power j))
      ∙ sym (ap number (power_add K root i j)) ∙ is_power (i + j)

  powers_wrap : (i : ℕ) → α^ (q - 1 + i) ≡ α^ i
  powers_wrap i = sym (is_power (q - 1 + i)) ∙ ap number (power_wraps K (q - 1) root ordered i) ∙ is_power i

  zero_times : (b : ℕ) → b < q → times 0 b ≡ 0
  zero_times b h =
      let keeps = number_keeps q (ops_of q) (laws_of q good) in
      let nought : number K.ops.zero ≡ 0 = keeps.on_zero ∙ (laws_of q good).zero_is in
      sym (keeps.on_mul K.ops.zero (b, h) ∙ ap (λ (z : ℕ). times z b) nought) ∙ ap number (zero-mul K (b, h)) ∙ nought

  module _ (a b : ℕ) (ha : a < q) (hb : b < q) where
    pub product_of_zero : a ≡ 0 → Is q 0 (times a b)
    product_of_zero z = is_product q a b good ha hb 0 (sym (ap (λ (x : ℕ). times x b) z ∙ zero_times b hb))

    pub product_by_zero : b ≡ 0 → Is q 0 (times a b)
    product_by_zero z =
        is_product q a b good ha hb 0 (sym ((laws_of q good).times_comm a b ha hb ∙ ap (λ (x : ℕ). times x a) z ∙ zero_times a ha))

  zero_times_not_one : (b : ℕ) → b < q → times 0 b ≡ 1 → ⊥
  zero_times_not_one b h e = omega (arith, sym (zero_times b h) ∙ e)

  -- So the search for an inverse of zero finds none.
  inverse_of_zero : 0 ≡ (ops_of q).inv 0
  unfolding ops_of
  inverse_of_zero = sym (inverse_none times q 0 zero_times_not_one)

  -- The inverse is the one symbol whose product with a is 1.
  inverse_unique : (a b : ℕ) → a < q → b < q → times a b ≡ 1 → b ≡ (ops_of q).inv a
  inverse_unique a b ha hb e =
      let laws = laws_of q good in
      let c = (ops_of q).inv a in
      let hc = laws.inv_below a ha in
      let nonzero : a ≡ 0 → ⊥ = λ (z : a ≡ 0). zero_times_not_one b hb (ap (λ (t : ℕ). times t b) (sym z) ∙ e) in
      sym (laws.times_one b hb) ∙ ap (times b) (sym (laws.inverse a ha nonzero)) ∙ sym (laws.times_assoc b a c hb ha hc)
      ∙ ap (λ (t : ℕ). times t c) (laws.times_comm b a hb ha ∙ e) ∙ laws.times_comm 1 c laws.one_below hc ∙ laws.times_one c hc

  -- Powers whose exponents add up to q - 1 are each other's inverses.
  inverse_of_power : (i j : ℕ) → i + j ≡ q - 1 → α^ j ≡ (ops_of q).inv (α^ i)
  inverse_of_power i j s = inverse_unique (α^ i) (α^ j) (power_below i) (power_below j) (times_powers i j ∙ ap α^ s ∙ (order_of q good).full)

  pub own_inverse : (a : ℕ) → a < q → a < 2 → Is q a ((ops_of q).inv a)
  own_inverse zero h low = is_inverse q 0 good h 0 inverse_of_zero
  own_inverse (suc zero) h low = is_inverse q 1 good h 1 (inverse_unique 1 1 h h ((laws_of q good).times_one 1 h))
  own_inverse (suc (suc a)) h low = absurd (omega arith)

  module _ (powers exponents : List ℕ) (lists : ListsOf q powers exponents) where
    -- The entry of a symbol that is not zero is its exponent.
    exponent_of : (a : ℕ) → a < q → (a ≡ 0 → ⊥) → (at exponents a < q - 1) × (α^ (at exponents a) ≡ a)
    exponent_of a h z =
        let i = (order_of q good).reached a h z in
        let entry : at exponents a ≡ i.0 = ap (at exponents) (sym i.2) ∙ lists.exponent_at i.0 i.1 in
        (subst (λ (e : ℕ). e < q - 1) (sym entry) i.1, ap α^ entry ∙ i.2)

    -- Neither is zero, and s is the sum of the exponents.
    pub product_summed : (a b : ℕ) → a < q → b < q → (a ≡ 0 → ⊥) → (b ≡ 0 → ⊥) → (s : ℕ) → s ≡ at exponents a + at exponents b → Summed q powers s (times a b)
    product_summed a b ha hb za zb s sum =
        let ea = exponent_of a ha za in
        let eb = exponent_of b hb zb in
        let whole : α^ s ≡ times a b = ap α^ sum ∙ sym (times_powers (at exponents a) (at exponents b)) ∙ ap₂ times ea.1 eb.1 in
        let round : q - 1 ≤ s → q - 1 + (s - (q - 1)) ≡ s = λ (h : q - 1 ≤ s). omega arith in
        record {
          below = omega (arith, sum, ea.0, eb.0);
          short = λ h. is_product q a b good ha hb (at powers s) (lists.power_at s h ∙ whole);
          long =
              λ h.
              is_product q a b good ha hb (at powers (s - (q - 1)))
              (lists.power_at (s - (q - 1)) (omega (arith, sum, ea.0, eb.0)) ∙ sym (powers_wrap (s - (q - 1))) ∙ ap α^ (round h) ∙ whole);
        }

    -- a is neither 0 nor 1, and e is its exponent.
    pub inverse_completed : (a : ℕ) → a < q → 2 ≤ a → (e : ℕ) → e ≡ at exponents a → Completed q powers e ((ops_of q).inv a)
    unfolding power
    inverse_completed a h high e entry =
        let ea = exponent_of a h (λ z. omega arith) in
        let powered : α^ e ≡ a = ap α^ entry ∙ ea.1 in
        let not_first : e ≡ 0 → ⊥ = λ (z : e ≡ 0). omega (arith, sym powered ∙ ap α^ z ∙ (laws_of q good).one_is) in
        record {
          positive = omega arith;
          below = omega (arith, ea.0);
          listed =
              is_inverse q a good h (at powers (q - 1 - e))
              (lists.power_at (q - 1 - e) (omega (arith, ea.0)) ∙ inverse_of_power e (q - 1 - e) (omega (arith, ea.0)) ∙ ap (ops_of q).inv powered);
        }

-- What the lists hold, by computed tests: the first power is 1, each is α times the one before, and each has its place for its exponent.
module _ (q : ℕ) (powers exponents : List ℕ) (in_use : T (is_field q fields)) where
  good : Good q
  good = record { listed = in_use }

  powers_at : at powers 0 ≡ 1 → ((i : ℕ) → i < q - 2 → at powers (suc i) ≡ (ops_of q).mul alpha (at powers i))
      → (i : ℕ) → i < q - 1 → at powers i ≡ power (ops_of q) alpha i
  unfolding power
  powers_at first next zero h = first ∙ sym (laws_of q good).one_is
  powers_at first next (suc i) h = next i (omega arith) ∙ ap ((ops_of q).mul alpha) (powers_at first next i (omega arith))

  pub lists_by_tests : length powers ≡ q - 1 → length exponents ≡ q
      → T (eqb (at powers 0) 1)
      → T (all (q - 2) (λ i. eqb (at powers (suc i)) ((ops_of q).mul alpha (at powers i))))
      → T (all (q - 1) (λ i. eqb (at exponents (at powers i)) i))
      → Good q × ListsOf q powers exponents
  lists_by_tests powers_count exponents_count t₁ t₂ t₃ = (
    good,
    record {
      powers_count = powers_count;
      exponents_count = exponents_count;
      power_at = powered;
      exponent_at = λ i h. ap (at exponents) (sym (powered i h)) ∙ same (q - 1) (λ i. at exponents (at powers i)) (λ i. i) t₃ i h;
    },
  )
    where
      powered : (i : ℕ) → i < q - 1 → at powers i ≡ power (ops_of q) alpha i
      powered = powers_at (eqb→eq (at powers 0) 1 t₁) (same (q - 2) (λ i. at powers (suc i)) (λ i. (ops_of q).mul alpha (at powers i)) t₂)
