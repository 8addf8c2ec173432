-- A part of a list as it is lent, and the list with another part in its place (`put_mid`, what a lent part leaves in the whole), place by place.
-- Holds: `front_count`, `front_weight`; `part_size`, `part_length`, `part_symbol`, `part_weight`; `put_length`, `put_before`, `put_inside`, `put_after`.
-- Of lists of parts of one size (`part_at`, `in_turn`): `parts_apart`, `length_part_at`, `part_at_symbol`; of a part put back (`with_part`) `part_put`,
-- `length_put`, `part_put_before`, `drop_put`; of an area whose parts are known `take_in_turn`, `in_turn_of_parts`; `length_in_turn`, `part_at_in_turn`; of a
-- loop that puts one part after another `PartsTo`, `parts_more`.
use mathlib.Core.Path.{◌≡◌, sym, ap, ap₂, ◌∙◌, subst}
use mathlib.Core.Bool.{Bool, not}
use mathlib.Core.List.{List, ◌++◌}
use Prim.Native.Nat.{ℕ, zero, suc, ◌+◌, ◌-◌, ◌*◌, ◌≤◌, ◌<◌}
use native.Mathlib.Nat.{mul-le-mul_right}
use native.Mathlib.Omega.{arith}
use native.Mathlib.Decide.{ℕ_discrete}
use lib.Dec.{eqb}
use lib.ListN.{length, get_or, take, drop, length-append, length-drop, take-append-drop}
use lib.Seq.{get_or-drop, take_at, drop_at, take-add}
use borrow.Rule.Slice.PartMut.{put_mid}
use Rattle.std.proofs.Common.{rules}
use Rattle.std.proofs.lemmas.List.{places}
use Rattle.std.proofs.lemmas.Slice.{overwrites}
use Rattle.algebra.specs.Ops.{pick}
use Rattle.algebra.proofs.Weights.{count_of_ext, total_split}
use Rattle.area.specs.Lists.{part_at, in_turn}
use Rattle.algebra.specs.Weight.{count_of}
use Rattle.area.specs.parts.Weights.{weight_to, weight_of}
use Rattle.area.proofs.Lists.{part_equal}
use Rattle.area.proofs.Weights.{first_counted, all_counted}

-- How many of the first n elements pass a test; and their weight.
pub front_count : (test : ℕ → Bool) (n : ℕ) (whole : List ℕ) → n ≤ length whole
    → count_of (length (take n whole)) (λ i. test (get_or (take n whole) i 0)) ≡ count_of n (λ i. test (get_or whole i 0))
front_count test n whole h = all_counted test (take n whole) ∙ sym (first_counted test whole n h)

pub front_weight : (n : ℕ) (whole : List ℕ) → n ≤ length whole → weight_of (take n whole) ≡ weight_to whole n
front_weight = front_count (λ a. not (eqb a 0))

-- The n elements from `start` on, with their number as the code computes it.
module _ (n start : ℕ) (whole : List ℕ) where
  pub part_size : start + n - start ≡ n
  part_size = omega arith

  pub part_length : start + n ≤ length whole → length (take (start + n - start) (drop start whole)) ≡ n
  part_length h = search (rules, places)

  pub part_symbol : (i : ℕ) → i < n → get_or (take (start + n - start) (drop start whole)) i 0 ≡ get_or whole (start + i) 0
  part_symbol i l = search (rules, places)

  -- What the part adds to the weight of the list up to it.
  pub part_weight : start + n ≤ length whole → weight_to whole start + weight_of (take (start + n - start) (drop start whole)) ≡ weight_to whole (start + n)
  part_weight h =
      ap (λ (t : ℕ). weight_to whole start + t)
      (ap (λ (t : ℕ). weight_of (take t (drop start whole))) part_size
      ∙ (front_weight n (drop start whole) (omega (arith, length-drop start whole))
      ∙ count_of_ext n (λ i. not (eqb (get_or (drop start whole) i 0) 0)) (λ i. not (eqb (get_or whole (start + i) 0) 0))
      (λ i l. ap (λ (t : ℕ). not (eqb t 0)) (get_or-drop start whole i 0))))
      ∙ sym (total_split start n (λ i. pick (not (eqb (get_or whole i 0) 0)) 1 0))

-- The whole with another part ys in the place of the k elements from a on.
module _ (a k : ℕ) (xs ys : List ℕ) (room : a + k ≤ length xs) (long : length ys ≡ k) where
  pub put_length : length (put_mid a k xs ys) ≡ length xs
  put_length = search (rules, places)

  pub put_before : (i : ℕ) → i < a → get_or (put_mid a k xs ys) i 0 ≡ get_or xs i 0
  put_before i l = search (rules, places)

  pub put_inside : (i : ℕ) → i < k → get_or (put_mid a k xs ys) (a + i) 0 ≡ get_or ys i 0
  put_inside i l = search (rules, places)

  pub put_after : (i : ℕ) → a + k ≤ i → get_or (put_mid a k xs ys) i 0 ≡ get_or xs i 0
  put_after i l = search (rules, places)

-- The end of part g lies not past the start of part f.
pub parts_apart : (size f g : ℕ) → g < f → g * size + size ≤ f * size
parts_apart size f g h = let next : g + 1 ≤ f = omega arith in omega (arith, mul-le-mul_right size next)

-- The length of a part, and its symbols.
module _ (size f : ℕ) (l : List ℕ) where
  pub length_part_at : f * size + size ≤ length l → length (part_at size f l) ≡ size
  length_part_at room = search (rules, places)

  pub part_at_symbol : (i : ℕ) → i < size → get_or (part_at size f l) i 0 ≡ get_or l (f * size + i) 0
  part_at_symbol i h = search (rules, places)

-- A list of parts with ys in the place of part f, as a lent part leaves it, its number of elements as the code computes it.
abbrev pub with_part : ℕ → ℕ → List ℕ → List ℕ → List ℕ
with_part size f xs ys = put_mid (f * size) (f * size + size - f * size) xs ys

-- That part, the parts before it, and what lies after it.
module _ (size f : ℕ) (xs ys : List ℕ) (room : f * size + size ≤ length xs) (long : length ys ≡ size) where
  sized : with_part size f xs ys ≡ put_mid (f * size) size xs ys
  sized = ap (λ (k : ℕ). put_mid (f * size) k xs ys) (part_size size (f * size) xs)

  pub part_put : part_at size f (with_part size f xs ys) ≡ ys
  part_put = search (rules, overwrites)

  pub length_put : length (with_part size f xs ys) ≡ length xs
  length_put = search (rules, places)

  pub part_put_before : (g : ℕ) → g < f → part_at size g (with_part size f xs ys) ≡ part_at size g xs
  part_put_before g h =
      let before : g * size + size ≤ f * size = parts_apart size f g h in
      part_equal (drop (g * size) (with_part size f xs ys)) (drop (g * size) xs) size
      (omega (arith, length-drop (g * size) (with_part size f xs ys), length_put, before, room)) (omega (arith, length-drop (g * size) xs, before, room))
      (λ i l.
      get_or-drop (g * size) (with_part size f xs ys) i 0
      ∙ (ap (λ (whole : List ℕ). get_or whole (g * size + i) 0) sized
      ∙ (put_before (f * size) size xs ys room long (g * size + i) (omega (arith, before)) ∙ sym (get_or-drop (g * size) xs i 0))))

  pub drop_put : (before : List ℕ) → drop (f * size) xs ≡ drop (f * size) before
      → drop ((f + 1) * size) (with_part size f xs ys) ≡ drop ((f + 1) * size) before
  drop_put before e = search (rules, overwrites)

-- The first part, and the others as parts of the rest.
part_first : (size : ℕ) (l : List ℕ) → part_at size 0 l ≡ take size l
part_first size l = search (rules, overwrites)

part_next : (size f : ℕ) (l : List ℕ) → part_at size (suc f) l ≡ part_at size f (drop size l)
part_next size f l = search (rules, overwrites)

-- The first D parts, where they are known, ..
pub take_in_turn : (size D : ℕ) (g : ℕ → List ℕ) (l : List ℕ) → ((f : ℕ) → f < D → part_at size f l ≡ g f) → take (D * size) l ≡ in_turn D g
unfolding in_turn
take_in_turn size zero g l h = let none : 0 * size ≡ 0 = omega arith in ap (λ (t : ℕ). take t l) none
take_in_turn size (suc D) g l h =
    let place : suc D * size ≡ size + D * size = omega arith in
    ap (λ (t : ℕ). take t l) place
    ∙ (take-add size (D * size) l
    ∙ ap₂ ◌++◌ (sym (part_first size l) ∙ h 0 (omega arith))
    (take_in_turn size D (λ f. g (suc f)) (drop size l) (λ f b. sym (part_next size f l) ∙ h (suc f) (omega arith))))

-- .. and the whole area, which past them is as it was.
pub in_turn_of_parts : (size D : ℕ) (g : ℕ → List ℕ) (after before : List ℕ) → ((f : ℕ) → f < D → part_at size f after ≡ g f)
    → drop (D * size) after ≡ drop (D * size) before → after ≡ in_turn D g ++ drop (D * size) before
in_turn_of_parts size D g after before parts rest =
    sym (take-append-drop (D * size) after) ∙ ap₂ ◌++◌ (take_in_turn size D g after parts) rest

-- Lists of one length one after another: their number of symbols, and each as a part.
pub length_in_turn : (size D : ℕ) (g : ℕ → List ℕ) → ((f : ℕ) → f < D → length (g f) ≡ size) → length (in_turn D g) ≡ D * size
unfolding in_turn
length_in_turn size zero g h = omega arith
length_in_turn size (suc D) g h =
    let place : suc D * size ≡ size + D * size = omega arith in
    length-append (g 0) (in_turn D (λ f. g (suc f)))
    ∙ (ap₂ ◌+◌ (h 0 (omega arith)) (length_in_turn size D (λ f. g (suc f)) (λ f b. h (suc f) (omega arith))) ∙ sym place)

pub part_at_in_turn : (size D : ℕ) (g : ℕ → List ℕ) → ((f : ℕ) → f < D → length (g f) ≡ size) → (f : ℕ) → f < D → part_at size f (in_turn D g) ≡ g f
unfolding in_turn
part_at_in_turn size zero g h f b = absurd (omega arith)
part_at_in_turn size (suc D) g h zero b =
    part_first size (g 0 ++ in_turn D (λ f. g (suc f))) ∙ take_at (g 0) (in_turn D (λ f. g (suc f))) size (h 0 (omega arith))
part_at_in_turn size (suc D) g h (suc f) b =
    part_next size f (g 0 ++ in_turn D (λ f. g (suc f)))
    ∙ (ap (part_at size f) (drop_at (g 0) (in_turn D (λ f. g (suc f))) size (h 0 (omega arith)))
    ∙ part_at_in_turn size D (λ f. g (suc f)) (λ f b. h (suc f) (omega arith)) f (omega arith))

-- A loop puts one part after another: the first c parts of the area are those of g.
pub record PartsTo (size : ℕ) (g : ℕ → List ℕ) (before : List ℕ) (c : ℕ) (area : List ℕ) : Type 0 where
  pub long : length area ≡ length before
  pub parts : (f : ℕ) → f < c → part_at size f area ≡ g f

module _ (size : ℕ) (g : ℕ → List ℕ) (before : List ℕ) where
  -- One part more.
  pub parts_more : (c : ℕ) (area part : List ℕ) → c * size + size ≤ length before → length part ≡ size → part ≡ g c → PartsTo size g before c area
      → PartsTo size g before (c + 1) (with_part size c area part)
  parts_more c area part room long e P = record {
    long = length_put size c area part inside long ∙ P.long;
    parts = λ f h. at f h (ℕ_discrete f c);
  }
    where
      inside : c * size + size ≤ length area
      inside = omega (arith, room, P.long)

      at : (f : ℕ) → f < c + 1 → Dec (f ≡ c) → part_at size f (with_part size c area part) ≡ g f
      at f h (yes s) = subst (λ (t : ℕ). part_at size t (with_part size c area part) ≡ g t) (sym s) (part_put size c area part inside long ∙ e)
      at f h (no d) = let below : f < c = omega arith in part_put_before size c area part inside long f below ∙ P.parts f below
