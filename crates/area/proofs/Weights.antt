-- Counts as chains of iterators make them: the counts of the parts that `chunks` cuts a list into add up to that of the list.
-- Holds: `first_counted`, `all_counted`; `from_counted`, `count_from_le`, `weight_le`; `parts`, `chunks_give`, `parts_counted`.
use mathlib.Core.Path.{◌≡◌, refl, sym, ap, ap₂, ◌∙◌}
use mathlib.Core.Bool.{Bool, true, false, not, cond}
use mathlib.Core.List.{List, [], ◌∷◌, ◌++◌, map}
use Prim.Native.Nat.{ℕ, zero, suc, ◌+◌, ◌≤◌, ◌<◌, min}
use native.Mathlib.Omega.{arith}
use lib.Dec.{eqb, leb}
use lib.ListN.{length, get_or, take, drop, take-append-drop, length-drop}
use Rattle.std.specs.List.{count_by, sum, sum_by}
use Rattle.std.specs.Iterator.{AlwaysYields}
use Rattle.std.specs.Slice.Iter.{chunks_rest, chunks_size, chunks_steps}
use Rattle.std.proofs.lemmas.Iterator.{YieldsList}
use lib.Seq.{take-length}
use Rattle.std.proofs.lemmas.List.{take_at, drop_at}
use Rattle.std.proofs.lemmas.List.Sums.{sum_by_more, sum_by-append, sum_by-cons, sum-map}
use Rattle.algebra.specs.Ops.{pick}
use Rattle.algebra.specs.Weight.{total, count_of}
use Rattle.algebra.proofs.Weights.{count_of_le}
use Rattle.area.specs.parts.Weights.{count_from, weight_of}

chosen : (b : Bool) → ◌≡◌ {A = ℕ} (pick b 1 0) (cond b 1 0)
chosen true = refl
chosen false = refl

-- A count of the first n elements, and of all, as `count_by` makes it.
module _ (test : ℕ → Bool) where
  pub first_counted : (l : List ℕ) (n : ℕ) → n ≤ length l → count_of n (λ i. test (get_or l i 0)) ≡ count_by test (take n l)
  unfolding total
  first_counted l zero h = refl
  first_counted l (suc n) h =
      let e : n + 1 ≡ suc n = omega arith in
      ap₂ ◌+◌ (first_counted l n (omega arith)) (chosen (test (get_or l n 0)))
      ∙ sym (sum_by_more (λ x. cond (test x) 1 0) l n 0 (omega arith))
      ∙ ap (λ (k : ℕ). count_by test (take k l)) e

  pub all_counted : (l : List ℕ) → count_of (length l) (λ i. test (get_or l i 0)) ≡ count_by test l
  all_counted l = first_counted l (length l) (omega arith) ∙ ap (count_by test) (take-length l)

-- The bytes that are not below another, and those that are not zero: counted, and no more than there are.
pub from_counted : (least : ℕ) (l : List ℕ) → count_from least l ≡ count_by (leb least) l
from_counted least = all_counted (leb least)

pub count_from_le : (least : ℕ) (l : List ℕ) → count_from least l ≤ length l
count_from_le least l = count_of_le (length l) (λ i. leb least (get_or l i 0))

pub weight_le : (l : List ℕ) → weight_of l ≤ length l
weight_le l = count_of_le (length l) (λ i. not (eqb (get_or l i 0) 0))

-- The parts of at most `size` elements that a list of at most n elements is cut into.
abbrev pub parts : {A : Type 0} → ℕ → ℕ → List A → List (List A)
parts size zero l = []
parts size (suc n) [] = []
parts size (suc n) (x ∷ xs) =
    take (min size (length (x ∷ xs))) (x ∷ xs) ∷ parts size n (drop (min size (length (x ∷ xs))) (x ∷ xs))

-- `chunks` gives them.
module _ {A : Type 0} (size : ℕ) (some : 0 < size) where
  cut : (n : ℕ) (l : List A) (s : _) → chunks_size s ≡ size → chunks_rest s ≡ l → length l ≤ n
      → AlwaysYields (chunks_steps {A = A}) (λ x. x.now) s (parts size n l)
  cut zero [] s z e h = λ x j p. omega (arith, p.1.2, ap length e)
  cut zero (x ∷ xs) s z e h = absurd (omega arith)
  cut (suc n) [] s z e h = λ x j p. omega (arith, p.1.2, ap length e)
  cut (suc n) (x ∷ xs) s z e h = (
    (λ j p. omega (arith, p.1.0, ap length e)),
    λ y j p.
        let whole : x ∷ xs ≡ y.now ++ chunks_rest j = sym e ∙ p.1.0 in
        let long : length y.now ≡ min size (length (x ∷ xs)) = p.1.1 ∙ ap₂ min z (ap length e) in
        let k = min size (length (x ∷ xs)) in (
          sym (take_at y.now (chunks_rest j) k long) ∙ ap (take k) (sym whole),
          cut n (drop k (x ∷ xs)) j (p.0 ∙ z) (sym (drop_at y.now (chunks_rest j) k long) ∙ ap (drop k) (sym whole))
              (omega (arith, length-drop k (x ∷ xs))),
        ),
  )

pub chunks_give : {A : Type 0} {s : _} (size : ℕ) (l : List A) → 0 < size → chunks_rest s ≡ l → chunks_size s ≡ size
    → YieldsList (chunks_steps {A = A}) (λ x. x.now) s (parts size (length l) l)
chunks_give {A} {s} size l some e z = record { runs = cut size some (length l) l s z e (omega arith) }

-- Their counts add up to that of the list.
module _ (test : ℕ → Bool) where
  abbrev counted : List ℕ → ℕ
  counted l = count_of (length l) (λ i. test (get_or l i 0))

  sums : (size : ℕ) → 0 < size → (n : ℕ) (l : List ℕ) → length l ≤ n → sum_by counted (parts size n l) ≡ count_by test l
  sums size some zero [] h = refl
  sums size some zero (x ∷ xs) h = absurd (omega arith)
  sums size some (suc n) [] h = refl
  sums size some (suc n) (x ∷ xs) h =
      let l = x ∷ xs in
      let k = min size (length l) in
      sum_by-cons counted (take k l) (parts size n (drop k l))
      ∙ ap₂ ◌+◌ (all_counted test (take k l)) (sums size some n (drop k l) (omega (arith, length-drop k l)))
      ∙ sym (sum_by-append (λ x. cond (test x) 1 0) (take k l) (drop k l)) ∙ ap (count_by test) (take-append-drop k l)

  pub parts_counted : (size : ℕ) (l : List ℕ) → 0 < size → sum (map counted (parts size (length l) l)) ≡ counted l
  parts_counted size l some = sum-map counted (parts size (length l) l) ∙ sums size some (length l) l (omega arith) ∙ sym (all_counted test l)
