-- A field from the powers of one element α. Given are an addition of the numbers below q, the map "times α" that is additive, the list of the
-- powers α^0 .. α^(n-1) and the list of the exponents of the nonzero numbers. The product of two nonzero numbers is the power at the sum of
-- their exponents; it is associative and commutative because exponents add, and distributes because "times α" does, as often as it is applied.
-- Holds: the hypotheses `Addition`, `Doubling` and `Listed` (by computed tests: `listed_by_tests`), joined in `Generated`; `product_of`, the
-- product by exponents, and its laws; `field_with` and `order_with`: operations whose product agrees with it are a field, α has order n.
use mathlib.Core.Path.{◌≡◌, refl, sym, ap, ap₂, ◌∙◌, subst}
use mathlib.Core.Bool.{Bool, true, false}
use mathlib.Core.List.{List}
use Prim.Native.Nat.{ℕ, zero, suc, ◌+◌, ◌-◌, ◌%◌, ◌<◌}
use native.Mathlib.Nat.{suc-mod, mod-lt, mod-eq_of_lt, mod_self, zero-mod, mod-add-mod, add-mod, add_comm, zero-add, suc-add}
use native.Mathlib.Omega.{arith}
use lib.Dec.{T, eqb, eqb→eq, ltb, ltb→lt}
use borrow.Author.Tests.{eqb-true, eqb-false, ne_eqb}
use Rattle.algebra.specs.Ops.{pick}
use Rattle.algebra.specs.Sum.{sum, power}
use Rattle.algebra.proofs.Below.{FieldBelow, OrderBelow}
use Rattle.algebra.proofs.Tests.{all, all_at, same, within}
use Rattle.field.specs.parts.Sequences.{at}
use Rattle.field.specs.Numbers.{inverse_below, numbers}
use Rattle.field.proofs.Numbers.{inverse_found, inverse_below_lem}

-- The numbers below q are a commutative group.
pub record Addition (q : ℕ) (add : ℕ → ℕ → ℕ) (neg : ℕ → ℕ) : Type 0 where
  pub add_below : (a b : ℕ) → a < q → b < q → add a b < q
  pub neg_below : (a : ℕ) → a < q → neg a < q
  pub plus_assoc : (a b c : ℕ) → a < q → b < q → c < q → add (add a b) c ≡ add a (add b c)
  pub plus_comm : (a b : ℕ) → a < q → b < q → add a b ≡ add b a
  pub plus_zero : (a : ℕ) → a < q → add a 0 ≡ a
  pub plus_neg : (a : ℕ) → a < q → add a (neg a) ≡ 0

-- "Times α" on the numbers below q.
pub record Doubling (q : ℕ) (add : ℕ → ℕ → ℕ) (double : ℕ → ℕ) : Type 0 where
  pub double_below : (a : ℕ) → a < q → double a < q
  pub double_zero : double 0 ≡ 0
  pub double_adds : (a b : ℕ) → a < q → b < q → double (add a b) ≡ add (double a) (double b)

-- The n powers of α, each α times the one before and the first again after the last, and the exponents of the numbers below q but 0.
pub record Listed (q n : ℕ) (double : ℕ → ℕ) (powers exponents : List ℕ) : Type 0 where
  pub several : 1 < n
  pub first : at powers 0 ≡ 1
  pub next : (i : ℕ) → i < n → double (at powers i) ≡ at powers (suc i % n)
  pub power_nonzero : (i : ℕ) → i < n → 0 < at powers i
  pub power_below : (i : ℕ) → i < n → at powers i < q
  pub exponent_of_power : (i : ℕ) → i < n → at exponents (at powers i) ≡ i
  pub exponent_below : (a : ℕ) → a < q → at exponents a < n
  pub power_of_exponent : (a : ℕ) → a < q → (a ≡ 0 → ⊥) → at powers (at exponents a) ≡ a

pub listed_by_tests : (q n : ℕ) (double : ℕ → ℕ) (powers exponents : List ℕ)
    → T (ltb 1 n)
    → T (eqb (at powers 0) 1)
    → T (all n (λ i. eqb (double (at powers i)) (at powers (suc i % n))))
    → T (all n (λ i. ltb 0 (at powers i)))
    → T (all n (λ i. ltb (at powers i) q))
    → T (all n (λ i. eqb (at exponents (at powers i)) i))
    → T (all q (λ a. ltb (at exponents a) n))
    → T (all q (λ a. eqb (pick (eqb a 0) 0 (at powers (at exponents a))) a))
    → Listed q n double powers exponents
listed_by_tests q n double powers exponents t₁ t₂ t₃ t₄ t₅ t₆ t₇ t₈ =
    record {
      several = ltb→lt 1 n t₁;
      first = eqb→eq (at powers 0) 1 t₂;
      next = same n (λ i. double (at powers i)) (λ i. at powers (suc i % n)) t₃;
      power_nonzero = λ i h. ltb→lt 0 (at powers i) (all_at n (λ i. ltb 0 (at powers i)) t₄ i h);
      power_below = within n q (at powers) t₅;
      exponent_of_power = same n (λ i. at exponents (at powers i)) (λ i. i) t₆;
      exponent_below = within q n (at exponents) t₇;
      power_of_exponent =
          λ a h z.
          rw (ne_eqb a 0 z) at (same q (λ a. pick (eqb a 0) 0 (at powers (at exponents a))) (λ a. a) t₈ a h);
    }

-- The hypotheses of the construction.
pub record Generated (q n : ℕ) (add : ℕ → ℕ → ℕ) (neg double : ℕ → ℕ) (powers exponents : List ℕ) : Type 0 where
  pub addition : Addition q add neg
  pub doubling : Doubling q add double
  pub listed : Listed q n double powers exponents

-- α^i × a
unfoldable pub doublings : (ℕ → ℕ) → ℕ → ℕ → ℕ
doublings double zero a = a
doublings double (suc i) a = double (doublings double i a)

-- Products by exponents; products with zero are zero.
unfoldable pub product_of : ℕ → List ℕ → List ℕ → ℕ → ℕ → ℕ
product_of n powers exponents a b = pick (eqb a 0) 0 (pick (eqb b 0) 0 (at powers ((at exponents a + at exponents b) % n)))

-- A number is zero or a power of α.
data IsPower (double : ℕ → ℕ) : ℕ → Type 0 where
  nought : IsPower double 0
  power_of_alpha : (i : ℕ) → IsPower double (doublings double i 1)

module _ {q n : ℕ} {add : ℕ → ℕ → ℕ} {neg double : ℕ → ℕ} {powers exponents : List ℕ} (G : Generated q n add neg double powers exponents) where
  open G.addition use {add_below, neg_below, plus_assoc, plus_comm, plus_zero, plus_neg}
  open G.doubling use {double_below, double_zero, double_adds}
  open G.listed use {several, first, next, power_nonzero, power_below, exponent_of_power, exponent_below, power_of_exponent}

  pub one_below : 1 < q
  one_below = subst (λ (a : ℕ). a < q) first (power_below 0 (omega (arith, several)))

  zero_below : 0 < q
  zero_below = omega (arith, one_below)

  doublings_below : (i a : ℕ) → a < q → doublings double i a < q
  unfolding doublings
  doublings_below zero a h = h
  doublings_below (suc i) a h = double_below (doublings double i a) (doublings_below i a h)

  alpha_below : (i : ℕ) → doublings double i 1 < q
  alpha_below i = doublings_below i 1 one_below

  doublings_zero : (i : ℕ) → doublings double i 0 ≡ 0
  unfolding doublings
  doublings_zero zero = refl
  doublings_zero (suc i) = ap double (doublings_zero i) ∙ double_zero

  doublings_adds : (i a b : ℕ) → a < q → b < q → doublings double i (add a b) ≡ add (doublings double i a) (doublings double i b)
  unfolding doublings
  doublings_adds zero a b ha hb = refl
  doublings_adds (suc i) a b ha hb =
      ap double (doublings_adds i a b ha hb) ∙ double_adds (doublings double i a) (doublings double i b) (doublings_below i a ha) (doublings_below i b hb)

  doublings_sum : (i j a : ℕ) → doublings double (i + j) a ≡ doublings double i (doublings double j a)
  unfolding doublings
  doublings_sum zero j a = ap (λ (k : ℕ). doublings double k a) (zero-add j)
  doublings_sum (suc i) j a = ap (λ (k : ℕ). doublings double k a) (suc-add i j) ∙ ap double (doublings_sum i j a)

  positive : 0 < n
  positive = omega (arith, several)

  -- α^i is the entry at i, counted round the list.
  doublings_one : (i : ℕ) → doublings double i 1 ≡ at powers (i % n)
  unfolding doublings
  doublings_one zero = sym first ∙ ap (at powers) (sym (zero-mod n))
  doublings_one (suc i) = ap double (doublings_one i) ∙ next (i % n) (mod-lt i positive) ∙ ap (at powers) (sym (suc-mod i n))

  element : (a : ℕ) → a < q → IsPower double a
  element a h = decide (eqb a 0) refl
    where
      decide : (b : Bool) → eqb a 0 ≡ b → IsPower double a
      decide true e = subst (IsPower double) (sym (eqb-true a 0 e)) nought
      decide false e =
          subst (IsPower double)
          (doublings_one (at exponents a) ∙ ap (at powers) (mod-eq_of_lt (exponent_below a h)) ∙ power_of_exponent a h (eqb-false a 0 e))
          (power_of_alpha (at exponents a))

  nonzero : (i : ℕ) → doublings double i 1 ≡ 0 → ⊥
  nonzero i e = let p : 0 < at powers (i % n) = power_nonzero (i % n) (mod-lt i positive) in
      let z : at powers (i % n) ≡ 0 = sym (doublings_one i) ∙ e in omega arith

  exponent_of : (i : ℕ) → at exponents (doublings double i 1) ≡ i % n
  exponent_of i = ap (at exponents) (doublings_one i) ∙ exponent_of_power (i % n) (mod-lt i positive)

  abbrev product : ℕ → ℕ → ℕ
  product = product_of n powers exponents

  pub product_nought : (b : ℕ) → product 0 b ≡ 0
  unfolding product_of
  product_nought b = refl

  -- Multiplying with α^i is multiplying i times with α.
  pub product_power : (i b : ℕ) → b < q → product (doublings double i 1) b ≡ doublings double i b
  unfolding product_of
  product_power i b h = by b (element b h)
    where
      by : (b : ℕ) → IsPower double b → product (doublings double i 1) b ≡ doublings double i b
      by b nought = rw (ne_eqb (doublings double i 1) 0 (nonzero i)) (sym (doublings_zero i))
      by b (power_of_alpha j) =
          rw (ne_eqb (doublings double i 1) 0 (nonzero i), ne_eqb (doublings double j 1) 0 (nonzero j), exponent_of i, exponent_of j)
          (ap (at powers) (sym (add-mod i j n)) ∙ sym (doublings_one (i + j)) ∙ doublings_sum i j 1)

  -- The laws of a product, from the product with zero and with a power.
  pub product_double : (a b : ℕ) → a < q → b < q → product (double a) b ≡ double (product a b)
  unfolding doublings
  product_double a b ha hb = by a (element a ha)
    where
      by : (a : ℕ) → IsPower double a → product (double a) b ≡ double (product a b)
      by a nought =
          ap (λ (x : ℕ). product x b) double_zero ∙ product_nought b ∙ sym (ap double (product_nought b) ∙ double_zero)
      by a (power_of_alpha i) = product_power (suc i) b hb ∙ sym (ap double (product_power i b hb))

  pub product_below : (a b : ℕ) → a < q → b < q → product a b < q
  product_below a b ha hb = by a (element a ha)
    where
      by : (a : ℕ) → IsPower double a → product a b < q
      by a nought = rw (product_nought b) zero_below
      by a (power_of_alpha i) = rw (product_power i b hb) (doublings_below i b hb)

  product_zero : (a : ℕ) → a < q → product a 0 ≡ 0
  product_zero a ha = by a (element a ha)
    where
      by : (a : ℕ) → IsPower double a → product a 0 ≡ 0
      by a nought = product_nought 0
      by a (power_of_alpha i) = product_power i 0 zero_below ∙ doublings_zero i

  pub product_comm : (a b : ℕ) → a < q → b < q → product a b ≡ product b a
  product_comm a b ha hb = by a b (element a ha) (element b hb)
    where
      by : (a b : ℕ) → IsPower double a → IsPower double b → product a b ≡ product b a
      by a b nought nought = refl
      by a b nought (power_of_alpha j) = product_nought (doublings double j 1) ∙ sym (product_zero (doublings double j 1) (alpha_below j))
      by a b (power_of_alpha i) nought = product_zero (doublings double i 1) (alpha_below i) ∙ sym (product_nought (doublings double i 1))
      by a b (power_of_alpha i) (power_of_alpha j) =
          product_power i (doublings double j 1) (alpha_below j)
          ∙ sym (doublings_sum i j 1) ∙ ap (λ (k : ℕ). doublings double k 1) (add_comm i j) ∙ doublings_sum j i 1
          ∙ sym (product_power j (doublings double i 1) (alpha_below i))

  product_assoc : (a b c : ℕ) → a < q → b < q → c < q → product (product a b) c ≡ product a (product b c)
  product_assoc a b c ha hb hc = by a b (element a ha) (element b hb)
    where
      by : (a b : ℕ) → IsPower double a → IsPower double b → product (product a b) c ≡ product a (product b c)
      by a b nought _ = rw (product_nought b, product_nought c, product_nought (product b c))
      by a b (power_of_alpha i) nought =
          rw (product_zero (doublings double i 1) (alpha_below i), product_nought c, product_zero (doublings double i 1) (alpha_below i))
      by a b (power_of_alpha i) (power_of_alpha j) =
          ap (λ (x : ℕ). product x c) (product_power i (doublings double j 1) (alpha_below j) ∙ sym (doublings_sum i j 1))
          ∙ product_power (i + j) c hc ∙ doublings_sum i j c
          ∙ sym (ap (product (doublings double i 1)) (product_power j c hc) ∙ product_power i (doublings double j c) (doublings_below j c hc))

  pub product_one : (a : ℕ) → a < q → product a 1 ≡ a
  unfolding doublings
  product_one a h = product_comm a 1 h one_below ∙ product_power 0 a h

  pub product_distributes : (a b c : ℕ) → a < q → b < q → c < q → product a (add b c) ≡ add (product a b) (product a c)
  product_distributes a b c ha hb hc = by a (element a ha)
    where
      by : (a : ℕ) → IsPower double a → product a (add b c) ≡ add (product a b) (product a c)
      by a nought =
          product_nought (add b c) ∙ sym (plus_zero 0 zero_below) ∙ sym (ap₂ add (product_nought b) (product_nought c))
      by a (power_of_alpha i) =
          product_power i (add b c) (add_below b c hb hc) ∙ doublings_adds i b c hb hc ∙ sym (ap₂ add (product_power i b hb) (product_power i c hc))

  pub product_distributes_right : (a b c : ℕ) → a < q → b < q → c < q → product (add a b) c ≡ add (product a c) (product b c)
  product_distributes_right a b c ha hb hc =
      product_comm (add a b) c (add_below a b ha hb) hc ∙ product_distributes c a b hc ha hb
      ∙ ap₂ add (product_comm c a hc ha) (product_comm c b hc hb)

  -- The exponents of a number and of its inverse add up to n, or to 0.
  inverse_exists : (a : ℕ) → a < q → (a ≡ 0 → ⊥) → (b : ℕ) × (b < q) × (product a b ≡ 1)
  inverse_exists a h z = by a (element a h) z
    where
      by : (a : ℕ) → IsPower double a → (a ≡ 0 → ⊥) → (b : ℕ) × (b < q) × (product a b ≡ 1)
      by a nought z = absurd (z refl)
      by a (power_of_alpha i) z =
          let j : ℕ = n - i % n in
          let less : i % n < n = mod-lt i positive in
          let whole : i % n + j ≡ n = omega arith in (
            doublings double j 1,
            alpha_below j,
            product_power i (doublings double j 1) (alpha_below j)
                ∙ sym (doublings_sum i j 1) ∙ doublings_one (i + j)
                ∙ ap (at powers) (sym (mod-add-mod i n j) ∙ ap (λ (k : ℕ). k % n) whole ∙ mod_self n) ∙ first,
          )

  -- Operations with this addition whose product agrees with that by exponents are a field, and α has order n in it.
  module _ (mul : ℕ → ℕ → ℕ) (agrees : (a b : ℕ) → a < q → b < q → mul a b ≡ product a b) where
    mul_below : (a b : ℕ) → a < q → b < q → mul a b < q
    mul_below a b ha hb = subst (λ (x : ℕ). x < q) (sym (agrees a b ha hb)) (product_below a b ha hb)

    mul_inverse : (a : ℕ) → a < q → (a ≡ 0 → ⊥) → mul a (inverse_below mul q a) ≡ 1
    mul_inverse a h z =
        let found : (b : ℕ) × (b < q) × (product a b ≡ 1) = inverse_exists a h z in
        inverse_found mul q a found.0 found.1 (agrees a found.0 h found.1 ∙ found.2)

    pub field_with : FieldBelow q (numbers q add neg mul)
    field_with =
        record {
          zero_is = refl;
          one_is = refl;
          test_is = λ a. refl;
          one_below = one_below;
          add_below = add_below;
          neg_below = neg_below;
          mul_below = mul_below;
          inv_below = λ a h. inverse_below_lem mul q a zero_below;
          plus_assoc = plus_assoc;
          plus_comm = plus_comm;
          plus_zero = plus_zero;
          plus_neg = plus_neg;
          times_assoc =
              λ a b c ha hb hc.
              ap (λ (x : ℕ). mul x c) (agrees a b ha hb) ∙ agrees (product a b) c (product_below a b ha hb) hc
              ∙ product_assoc a b c ha hb hc
              ∙ sym (ap (mul a) (agrees b c hb hc) ∙ agrees a (product b c) ha (product_below b c hb hc));
          times_comm = λ a b ha hb. agrees a b ha hb ∙ product_comm a b ha hb ∙ sym (agrees b a hb ha);
          times_one = λ a ha. agrees a 1 ha one_below ∙ product_one a ha;
          distributes =
              λ a b c ha hb hc.
              agrees a (add b c) ha (add_below b c hb hc) ∙ product_distributes a b c ha hb hc
              ∙ sym (ap₂ add (agrees a b ha hb) (agrees a c ha hc));
          inverse = mul_inverse;
        }

    power_is : (i : ℕ) → power (numbers q add neg mul) (double 1) i ≡ doublings double i 1
    unfolding power doublings
    power_is zero = refl
    power_is (suc i) =
        ap (mul (double 1)) (power_is i)
        ∙ agrees (double 1) (doublings double i 1) (double_below 1 one_below) (alpha_below i)
        ∙ product_power 1 (doublings double i 1) (alpha_below i)

    pub order_with : sum (numbers q add neg mul) n (λ i. 1) ≡ neg 1 → OrderBelow q (numbers q add neg mul) n (double 1)
    order_with ones =
        record {
          root_below = double_below 1 one_below;
          distinct =
              λ i j hi hj e.
              sym (mod-eq_of_lt hi) ∙ sym (exponent_of i) ∙ ap (at exponents) (sym (power_is i) ∙ e ∙ power_is j)
              ∙ exponent_of j ∙ mod-eq_of_lt hj;
          reached =
              λ a h z. (
                at exponents a,
                exponent_below a h,
                power_is (at exponents a) ∙ doublings_one (at exponents a) ∙ ap (at powers) (mod-eq_of_lt (exponent_below a h)) ∙ power_of_exponent a h z,
              );
          full = power_is n ∙ doublings_one n ∙ ap (at powers) (mod_self n) ∙ first;
          ones = ones;
        }
