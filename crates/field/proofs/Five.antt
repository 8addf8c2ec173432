-- The field with five elements by its powers of α: 1 2 4 3. Every hypothesis is a computed test.
-- Holds: `five_lawful`.
use mathlib.Core.Path.{◌≡◌, refl}
use mathlib.Core.List.{List, [], ◌∷◌}
use Prim.Native.Nat.{ℕ, ◌+◌, ◌-◌, ◌*◌, ◌%◌, ◌<◌}
use native.Mathlib.Nat.{mod-lt}
use lib.Dec.{lit<, lit≤}
use Rattle.algebra.specs.Sum.{sum as total}
use Rattle.algebra.proofs.Tests.{all, same, same_pairs, same_triples}
use Rattle.field.specs.Modular.{modular}
use Rattle.field.specs.Fields.{five}
use Rattle.field.proofs.Lawful.{Lawful}
use Rattle.field.proofs.FromPowers.{Addition, Doubling, Listed, Generated, listed_by_tests, product_of, field_with, order_with}

abbrev sum : ℕ → ℕ → ℕ
sum a b = (a + b) % 5

abbrev negative : ℕ → ℕ
negative a = (5 - a) % 5

abbrev double : ℕ → ℕ
double a = a * 2 % 5

abbrev powers : List ℕ
powers = 1 ∷ 2 ∷ 4 ∷ 3 ∷ []

abbrev exponents : List ℕ
exponents = 0 ∷ 0 ∷ 1 ∷ 3 ∷ 2 ∷ []

remainder : (a : ℕ) → a % 5 < 5
remainder a = mod-lt a (lit< tt)

addition : Addition 5 sum negative
unfolding all
addition =
    record {
      add_below = λ a b ha hb. remainder (a + b);
      neg_below = λ a h. remainder (5 - a);
      plus_assoc = same_triples 5 (λ a b c. sum (sum a b) c) (λ a b c. sum a (sum b c)) tt;
      plus_comm = same_pairs 5 (λ a b. sum a b) (λ a b. sum b a) tt;
      plus_zero = same 5 (λ a. sum a 0) (λ a. a) tt;
      plus_neg = same 5 (λ a. sum a (negative a)) (λ a. 0) tt;
    }

doubling : Doubling 5 sum double
unfolding all
doubling =
    record {
      double_below = λ a h. remainder (a * 2);
      double_zero = refl;
      double_adds = same_pairs 5 (λ a b. double (sum a b)) (λ a b. sum (double a) (double b)) tt;
    }

listed : Listed 5 4 double powers exponents
unfolding all
listed = listed_by_tests 5 4 double powers exponents tt tt tt tt tt tt tt tt

generated : Generated 5 4 sum negative double powers exponents
generated = record { addition = addition; doubling = doubling; listed = listed }

agrees : (a b : ℕ) → a < 5 → b < 5 → a * b % 5 ≡ product_of 4 powers exponents a b
unfolding all product_of
agrees = same_pairs 5 (λ a b. a * b % 5) (product_of 4 powers exponents) tt

pub five_lawful : Lawful 5 five
unfolding five modular total
five_lawful =
    record {
      laws = field_with generated (λ a b. a * b % 5) agrees;
      order = order_with generated (λ a b. a * b % 5) agrees refl;
      small = lit≤ tt;
      sums = λ other a b. absurd (other refl);
      negatives = λ other a. absurd (other refl);
    }
