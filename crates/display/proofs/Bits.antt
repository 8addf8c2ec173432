-- Marks as bits of a number. Holds: `bit_inside` and `bit_past` (bit i of the number is the test at i for i < n, and 0 from n on), `bits_small`,
-- `bits_agree`, `ones_bits` (as many ones as tests that hold); `bit_more`, `folded_bits` (as a fold over two lists makes them).
use mathlib.Core.Path.{◌≡◌, refl, sym, ap, ap₂, ◌∙◌}
use mathlib.Core.Bool.{Bool, true, false}
use mathlib.Core.List.{List, [], ◌∷◌, ◌++◌, reverse}
use Prim.Native.Nat.{ℕ, zero, suc, ◌+◌, ◌*◌, ◌/◌, ◌%◌, ◌^◌, ◌≤◌, ◌<◌}
use native.Mathlib.Nat.{div-div-eq-div-mul, div-eq_of_lt, div-one, mul_comm, pow-suc}
use native.Mathlib.Omega.{arith}
use lib.Count.{ones, ones_step}
use lib.Dec.{lit<, lit≤}
use lib.ListN.{length, get_or}
use lib.Pow.{pow_mono}
use Rattle.std.specs.Prelude.{bit_or}
use Rattle.std.specs.List.{fold, zip}
use Rattle.std.specs.Int.{from_bool}
use Rattle.std.proofs.lemmas.Grind.{reverse_onto, fold-append}
use Rattle.std.proofs.lemmas.List.{length-reverse}
use Rattle.std.proofs.lemmas.Nat.{or_shifted, shl_whole}
use Rattle.algebra.specs.Ops.{pick}
use Rattle.algebra.specs.Weight.{total, count_of}
use Rattle.algebra.proofs.Weights.{one_le}
use Rattle.display.specs.Marks.{bits, is_marked}

-- The lowest bit, and the others.
module _ (n : ℕ) (test : ℕ → Bool) where
  lowest : bits (suc n) test % 2 ≡ pick (test 0) 1 0
  unfolding bits
  lowest = omega (arith, one_le (test 0))

  others : bits (suc n) test / 2 ≡ bits n (λ i. test (suc i))
  unfolding bits
  others = omega (arith, one_le (test 0))

pub bits_small : (n : ℕ) (test : ℕ → Bool) → bits n test < 2 ^ n
unfolding bits
bits_small zero test = lit< tt
bits_small (suc n) test =
    let rest : bits n (λ i. test (suc i)) < 2 ^ n = bits_small n (λ i. test (suc i)) in
    let twice : 2 ^ suc n ≡ 2 ^ n * 2 = pow-suc 2 n in
    omega (arith, one_le (test 0))

-- Bit i + 1 is bit i of the half.
halved : (a i : ℕ) → a / 2 ^ suc i ≡ a / 2 / 2 ^ i
halved a i = ap (λ (t : ℕ). a / t) (pow-suc 2 i ∙ mul_comm (2 ^ i) 2) ∙ sym (div-div-eq-div-mul a 2 (2 ^ i))

pub bit_inside : (n : ℕ) (test : ℕ → Bool) (i : ℕ) → i < n → bits n test / 2 ^ i % 2 ≡ pick (test i) 1 0
bit_inside zero test i h = absurd (omega arith)
bit_inside (suc n) test zero h = ap (λ (t : ℕ). t % 2) (div-one (bits (suc n) test)) ∙ lowest n test
bit_inside (suc n) test (suc i) h =
    ap (λ (t : ℕ). t % 2) (halved (bits (suc n) test) i ∙ ap (λ (t : ℕ). t / 2 ^ i) (others n test)) ∙ bit_inside n (λ a. test (suc a)) i (omega arith)

pub bit_past : (n : ℕ) (test : ℕ → Bool) (i : ℕ) → n ≤ i → bits n test / 2 ^ i % 2 ≡ 0
bit_past n test i h =
    let high : 2 ^ n ≤ 2 ^ i = pow_mono h in
    ap (λ (t : ℕ). t % 2) (div-eq_of_lt (omega (arith, bits_small n test)))

-- Tests that agree on the places there are.
pub bits_agree : (n : ℕ) (s t : ℕ → Bool) → ((i : ℕ) → i < n → s i ≡ t i) → bits n s ≡ bits n t
unfolding bits
bits_agree zero s t h = refl
bits_agree (suc n) s t h =
    ap₂ (λ (b : Bool) (k : ℕ). pick b 1 0 + 2 * k) (h 0 (omega arith)) (bits_agree n (λ i. s (suc i)) (λ i. t (suc i)) (λ i l. h (suc i) (omega arith)))

total_first : (n : ℕ) (f : ℕ → ℕ) → total (suc n) f ≡ f 0 + total n (λ i. f (suc i))
unfolding total
total_first zero f = omega arith
total_first (suc n) f = let more : total n f + f n ≡ f 0 + total n (λ i. f (suc i)) = total_first n f in omega arith

pub ones_bits : (n : ℕ) (test : ℕ → Bool) → ones (bits n test) ≡ count_of n test
unfolding bits total ones
ones_bits zero test = refl
ones_bits (suc n) test =
    ones_step (bits (suc n) test)
    ∙ (ap₂ (λ (a b : ℕ). a + ones b) (lowest n test) (others n test)
    ∙ (ap (λ (t : ℕ). pick (test 0) 1 0 + t) (ones_bits n (λ i. test (suc i))) ∙ sym (total_first n (λ i. pick (test i) 1 0))))

-- Marks as a fold from the last place on makes them: below those of the later places comes the mark of the one before.
abbrev pub bit_more : ℕ → ℕ × ℕ → ℕ
bit_more set p = bit_or (set * 2 ^ 1 % 2 ^ 64) (from_bool (is_marked p.0 p.1))

-- No mark is shifted out while there is room.
bit_more_is : (set : ℕ) (a b : ℕ) → set < 2 ^ 63 → bit_more set (a, b) ≡ set * 2 + pick (is_marked a b) 1 0
bit_more_is set a b h =
    ap (λ (t : ℕ). bit_or t (from_bool (is_marked a b))) (shl_whole set 63 1 64 h (lit≤ tt))
    ∙ (or_shifted set 1 (from_bool (is_marked a b)) (small (is_marked a b)) ∙ ap (λ (t : ℕ). set * 2 + t) (same (is_marked a b)))
  where
    small : (t : Bool) → from_bool t < 2 ^ 1
    small true = lit< tt
    small false = lit< tt

    same : (t : Bool) → from_bool t ≡ pick t 1 0
    same true = refl
    same false = refl

-- Pairs of two lists that end in x and y end in that pair.
zip_last : (a b : List ℕ) (x y : ℕ) → length a ≡ length b → zip (a ++ x ∷ []) (b ++ y ∷ []) ≡ zip a b ++ (x, y) ∷ []
zip_last [] [] x y e = refl
zip_last [] (v ∷ b) x y e = absurd (omega arith)
zip_last (u ∷ a) [] x y e = absurd (omega arith)
zip_last (u ∷ a) (v ∷ b) x y e = ap (λ (t : List (ℕ × ℕ)). (u, v) ∷ t) (zip_last a b x y (omega arith))

pub folded_bits : (a b : List ℕ) → length b ≡ length a → length a ≤ 64
    → fold bit_more 0 (zip (reverse a) (reverse b)) ≡ bits (length a) (λ i. is_marked (get_or a i 0) (get_or b i 0))
unfolding bits
folded_bits [] [] e h = refl
folded_bits [] (y ∷ b) e h = absurd (omega arith)
folded_bits (x ∷ a) [] e h = absurd (omega arith)
folded_bits (x ∷ a) (y ∷ b) e h =
    let test : ℕ → Bool = λ i. is_marked (get_or a i 0) (get_or b i 0) in
    let same : length (reverse a) ≡ length (reverse b) = omega (arith, length-reverse a, length-reverse b) in
    let later : fold bit_more 0 (zip (reverse a) (reverse b)) ≡ bits (length a) test = folded_bits a b (omega arith) (omega arith) in
    let few : length a ≤ 63 = omega arith in
    let room : 2 ^ length a ≤ 2 ^ 63 = pow_mono few in
    let small : bits (length a) test < 2 ^ 63 = omega (arith, bits_small (length a) test, room) in
    let last : bits (length a) test * 2 + pick (is_marked x y) 1 0 ≡ pick (is_marked x y) 1 0 + 2 * bits (length a) test = omega arith in
    ap₂ (λ (s t : List ℕ). fold bit_more 0 (zip s t)) (reverse_onto a x []) (reverse_onto b y [])
    ∙ (ap (fold bit_more 0) (zip_last (reverse a) (reverse b) x y same)
    ∙ (fold-append bit_more 0 (zip (reverse a) (reverse b)) ((x, y) ∷ [])
    ∙ (ap (λ (t : ℕ). bit_more t (x, y)) later ∙ (bit_more_is (bits (length a) test) x y small ∙ last))))
