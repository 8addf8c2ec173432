-- Fields with w bits a symbol (`specs/Binary.antt`): exclusive or is a commutative group, "times α" is additive, and the product by the bits
-- of a factor is the product by exponents. So what is left for such a field is its two lists, and tests over the numbers below 2^w.
-- Holds: `binary_addition`, `binary_doubling`, `product_by_bits`; from the two lists `binary_lawful`.
use mathlib.Core.Path.{◌≡◌, refl, sym, ap, ap₂, ◌∙◌, subst}
use mathlib.Core.Bool.{Bool, true, false}
use mathlib.Core.List.{List}
use Prim.Native.Nat.{ℕ, zero, suc, ◌-◌, ◌*◌, ◌/◌, ◌%◌, ◌^◌, ◌<◌, ◌≤◌}
use native.Mathlib.Nat.{div-add-mod', mod-lt, zero-mul, one-mul, not-suc-le-zero, le_of_suc-le-suc, div-eq_of_lt, div-eq_of_lt-le, div-lt_iff_lt-mul, pow-suc}
use native.Mathlib.Nat.{lt_of_lt_of_le, le_refl}
use native.Mathlib.Omega.{arith}
use lib.Arith.{lt-one}
use lib.Pow.{pow_pos, pow_mono}
use lib.Bits.{bit_xor, xor_lt, xor_comm, xor_zero_r, xor_self, xor_shr, xor_shifted}
use lib.Dec.{eqb, ltb, lit<}
use borrow.Author.Tests.{ltb-true, ltb-false, lt-ltb}
use Rattle.algebra.specs.Ops.{pick}
use Rattle.algebra.specs.Sum.{sum}
use Rattle.algebra.proofs.Below.{OrderBelow}
use Rattle.field.specs.Binary.{times_alpha, times_bits, binary}
use Rattle.field.specs.Fields.{alpha}
use Rattle.field.proofs.Lawful.{Lawful}
use Rattle.field.proofs.Xor.{xor_assoc, xor_swap, xor_double}
use Rattle.field.proofs.FromPowers.{Addition, Doubling, Listed, Generated, product_of, field_with, order_with, product_nought, product_one}
use Rattle.field.proofs.FromPowers.{product_comm, product_distributes_right, product_double, one_below}

pub binary_addition : (w : ℕ) → Addition (2 ^ w) bit_xor (λ a. a)
binary_addition w =
    record {
      add_below = xor_lt w;
      neg_below = λ a h. h;
      plus_assoc = λ a b c ha hb hc. xor_assoc a b c;
      plus_comm = λ a b ha hb. xor_comm a b;
      plus_zero = λ a h. xor_zero_r a;
      plus_neg = λ a h. xor_self a;
    }

-- Two bits, each times r.
scaled_bits : (c d r : ℕ) → c < 2 → d < 2 → bit_xor c d * r ≡ bit_xor (c * r) (d * r)
scaled_bits zero d r hc hd = sym (ap (λ (x : ℕ). bit_xor x (d * r)) (zero-mul r))
scaled_bits (suc zero) zero r hc hd = sym (ap (bit_xor (1 * r)) (zero-mul r) ∙ xor_zero_r (1 * r))
scaled_bits (suc zero) (suc zero) r hc hd = zero-mul r ∙ sym (xor_self (1 * r))
scaled_bits (suc zero) (suc (suc d)) r hc hd = absurd (not-suc-le-zero (le_of_suc-le-suc (le_of_suc-le-suc hd)))
scaled_bits (suc (suc c)) d r hc hd = absurd (not-suc-le-zero (le_of_suc-le-suc (le_of_suc-le-suc hc)))

-- The polynomial r has degree w.
module _ (w r : ℕ) (low : 2 ^ w ≤ r) (high : r < 2 * 2 ^ w) where
  -- The bit that doubling moves to place w.
  carry : ℕ → ℕ
  carry a = a * 2 / 2 ^ w

  carry_bit : (a : ℕ) → a < 2 ^ w → carry a < 2
  unfolding carry
  carry_bit a h = (div-lt_iff_lt-mul (pow_pos w)).1 (omega arith)

  no_carry : (a : ℕ) → a * 2 < 2 ^ w → carry a ≡ 0
  unfolding carry
  no_carry a h = div-eq_of_lt h

  with_carry : (a : ℕ) → a < 2 ^ w → 2 ^ w ≤ a * 2 → carry a ≡ 1
  unfolding carry
  with_carry a h g = div-eq_of_lt-le (2 ^ w) (omega arith) (omega arith)

  times_alpha_lem : (a : ℕ) → a < 2 ^ w → times_alpha w r a ≡ bit_xor (a * 2) (carry a * r)
  unfolding times_alpha
  times_alpha_lem a h = decide (ltb (a * 2) (2 ^ w)) refl
    where
      decide : (t : Bool) → ltb (a * 2) (2 ^ w) ≡ t → pick t (a * 2) (bit_xor (a * 2) r) ≡ bit_xor (a * 2) (carry a * r)
      decide true e = sym (ap (bit_xor (a * 2)) (ap (λ (c : ℕ). c * r) (no_carry a (ltb-true (a * 2) (2 ^ w) e)) ∙ zero-mul r) ∙ xor_zero_r (a * 2))
      decide false e = sym (ap (bit_xor (a * 2)) (ap (λ (c : ℕ). c * r) (with_carry a h (ltb-false (a * 2) (2 ^ w) e)) ∙ one-mul r))

  times_alpha_below : (a : ℕ) → a < 2 ^ w → times_alpha w r a < 2 ^ w
  unfolding times_alpha carry
  times_alpha_below a h = decide (ltb (a * 2) (2 ^ w)) refl
    where
      decide : (t : Bool) → ltb (a * 2) (2 ^ w) ≡ t → pick t (a * 2) (bit_xor (a * 2) r) < 2 ^ w
      decide true e = ltb-true (a * 2) (2 ^ w) e
      decide false e =
          let top : r / 2 ^ w ≡ 1 = div-eq_of_lt-le (2 ^ w) (omega arith) (omega arith) in
          let gone : bit_xor (a * 2) r / 2 ^ w ≡ 0 = xor_shr (a * 2) r w ∙ ap₂ bit_xor (with_carry a h (ltb-false (a * 2) (2 ^ w) e)) top in
          let small : bit_xor (a * 2) r < 1 * 2 ^ w = (div-lt_iff_lt-mul (pow_pos w)).0 (omega arith) in omega arith

  times_alpha_adds : (a b : ℕ) → a < 2 ^ w → b < 2 ^ w → times_alpha w r (bit_xor a b) ≡ bit_xor (times_alpha w r a) (times_alpha w r b)
  unfolding carry
  times_alpha_adds a b ha hb =
      times_alpha_lem (bit_xor a b) (xor_lt w a b ha hb)
      ∙ ap₂ bit_xor (sym (xor_double a b)) (ap (λ (c : ℕ). c * r) carries ∙ scaled_bits (carry a) (carry b) r (carry_bit a ha) (carry_bit b hb))
      ∙ xor_swap (a * 2) (b * 2) (carry a * r) (carry b * r)
      ∙ sym (ap₂ bit_xor (times_alpha_lem a ha) (times_alpha_lem b hb))
    where
      carries : carry (bit_xor a b) ≡ bit_xor (carry a) (carry b)
      carries = ap (λ (x : ℕ). x / 2 ^ w) (sym (xor_double a b)) ∙ xor_shr (a * 2) (b * 2) w

  pub binary_doubling : Doubling (2 ^ w) bit_xor (times_alpha w r)
  binary_doubling =
      record {
        double_below = times_alpha_below;
        double_zero = times_alpha_lem 0 (pow_pos w) ∙ ap (λ (c : ℕ). bit_xor 0 (c * r)) (no_carry 0 (pow_pos w)) ∙ zero-mul r;
        double_adds = times_alpha_adds;
      }

  -- With the lists of powers and exponents.
  module _ (powers exponents : List ℕ) (listed : Listed (2 ^ w) (2 ^ w - 1) (times_alpha w r) powers exponents) where
    generated : Generated (2 ^ w) (2 ^ w - 1) bit_xor (λ a. a) (times_alpha w r) powers exponents
    generated = record { addition = binary_addition w; doubling = binary_doubling; listed = listed }

    abbrev product : ℕ → ℕ → ℕ
    product = product_of (2 ^ w - 1) powers exponents

    -- The product with the lowest bit of a.
    times_lowest : (a b : ℕ) → a < 2 → b < 2 ^ w → pick (eqb a 1) b 0 ≡ product a b
    times_lowest zero b ha hb = sym (product_nought generated b)
    times_lowest (suc zero) b ha hb = sym (product_comm generated 1 b (one_below generated) hb ∙ product_one generated b hb)
    times_lowest (suc (suc a)) b ha hb = absurd (not-suc-le-zero (le_of_suc-le-suc (le_of_suc-le-suc ha)))

    -- The bits above the lowest, moved back to their places, are α times the rest.
    times_rest : (a : ℕ) → a < 2 ^ w → times_alpha w r (a / 2) ≡ a / 2 * 2
    unfolding times_alpha
    times_rest a h = rw (lt-ltb (a / 2 * 2) (2 ^ w) (omega arith))

    lowest_and_rest : (a : ℕ) → bit_xor (a % 2) (a / 2 * 2) ≡ a
    lowest_and_rest a = xor_comm (a % 2) (a / 2 * 2) ∙ xor_shifted (a / 2) 1 (a % 2) (mod-lt a (lit< tt)) ∙ div-add-mod' a 2

    pub product_by_bits : (k a b : ℕ) → k ≤ w → a < 2 ^ k → b < 2 ^ w → times_bits (times_alpha w r) k a b ≡ product a b
    unfolding times_bits
    product_by_bits zero a b hk ha hb = sym (ap (λ (x : ℕ). product x b) (lt-one ha) ∙ product_nought generated b)
    product_by_bits (suc k) a b hk ha hb =
        let whole : a < 2 ^ w = lt_of_lt_of_le ha (pow_mono hk) in
        let half : a / 2 < 2 ^ k = omega (arith, pow-suc 2 k) in
        let half_whole : a / 2 < 2 ^ w = omega arith in
        let rest_whole : a / 2 * 2 < 2 ^ w = omega arith in
        let bit : a % 2 < 2 ^ w = omega arith in
        ap₂ bit_xor (times_lowest (a % 2) b (mod-lt a (lit< tt)) hb) (ap (times_alpha w r) (product_by_bits k (a / 2) b (omega arith) half hb))
        ∙ ap (bit_xor (product (a % 2) b)) (sym (product_double generated (a / 2) b half_whole hb) ∙ ap (λ (x : ℕ). product x b) (times_rest a whole))
        ∙ sym (product_distributes_right generated (a % 2) (a / 2 * 2) b bit rest_whole hb)
        ∙ ap (λ (x : ℕ). product x b) (lowest_and_rest a)

    agrees : (a b : ℕ) → a < 2 ^ w → b < 2 ^ w → times_bits (times_alpha w r) w a b ≡ product a b
    agrees a b ha hb = product_by_bits w a b (le_refl w) ha hb

    pub binary_lawful : sum (binary w r) (2 ^ w - 1) (λ i. 1) ≡ 1 → times_alpha w r 1 ≡ alpha → 2 ^ w ≤ 16 → Lawful (2 ^ w) (binary w r)
    unfolding binary
    binary_lawful ones root small =
        record {
          laws = field_with generated (times_bits (times_alpha w r) w) agrees;
          order = subst (OrderBelow (2 ^ w) (binary w r) (2 ^ w - 1)) root (order_with generated (times_bits (times_alpha w r) w) agrees ones);
          small = small;
          sums = λ other a b. refl;
          negatives = λ other a. refl;
        }
