-- Products with the factors of unknown places, over any operations; how many those places are; what is multiplied by the factors.
-- Holds: `factors_first`, `no_factors`; `length_places`; `factored_once`; `factored_none`, `factored_known`, `factored_unknown`, as a loop multiplies;
-- `included_none`; `modified_none`, `modified_moved`.
use mathlib.Core.Path.{◌≡◌, refl, sym, ap, ap₂, subst, ◌∙◌}
use mathlib.Core.Bool.{Bool, true, false}
use mathlib.Core.List.{List, [], ◌∷◌}
use Prim.Native.Nat.{ℕ, zero, suc, ◌+◌, ◌-◌, ◌≤◌, ◌<◌}
use native.Mathlib.Numerals.{add-one}
use native.Mathlib.Omega.{arith}
use native.Mathlib.Decide.{dec_lt}
use lib.ListN.{length}
use Rattle.std.specs.List.{CopiedTo, SameBelow, SameFrom}
use Rattle.algebra.specs.Ops.{Ops, sub, pick}
use Rattle.algebra.specs.Sum.{power}
use Rattle.algebra.specs.Weight.{total, count_of}
use Rattle.field.specs.parts.Operations.{Is}
use Rattle.field.specs.Fields.{ops_of, alpha}
use Rattle.field.specs.Symbols.{is_unknown}
use Rattle.field.specs.parts.Sequences.{AllBelow, at}
use Rattle.code.proofs.Cost.{unknown_byte, known_byte}
use Rattle.block.specs.declared.TheConstants.{PLACES}
use Rattle.block.specs.declared.locator.Locator.{Locator}
use Rattle.block.specs.parts.LocatorAreas.{Multiple}
use Rattle.block.specs.parts.Factors.{times_factor, times_factors, places_where, FactoredOnce, Factored, Modified, Included}

-- A product with a factor looks, at place j, at the first j+1 terms of the series.
factor_ext : {F : Type 0} (o : Ops F) (β : F) (c d : ℕ → F) (j : ℕ) → ((i : ℕ) → i ≤ j → c i ≡ d i) → times_factor o β c j ≡ times_factor o β d j
unfolding times_factor
factor_ext o β c d zero same = same 0 (omega arith)
factor_ext o β c d (suc j) same = ap₂ (λ s t. sub o s (o.mul β t)) (same (suc j) (omega arith)) (same j (omega arith))

-- The first term stays.
pub factors_first : {F : Type 0} (o : Ops F) (α : F) (σ : ℕ → F) (places : List ℕ) → times_factors o α places σ 0 ≡ σ 0
unfolding times_factors times_factor
factors_first o α σ [] = refl
factors_first o α σ (i ∷ places) = factors_first o α σ places

-- Without places there is nothing to multiply with.
pub no_factors : {F : Type 0} (o : Ops F) (α : F) (σ : ℕ → F) (places : List ℕ) (j : ℕ) → length places ≡ 0
    → times_factors o α places σ (length places + j) ≡ σ j
unfolding times_factors
no_factors o α σ [] j e = let same : 0 + j ≡ j = omega arith in ap σ same
no_factors o α σ (i ∷ places) j e = absurd (omega (arith, e))

-- The places at which a test holds are as many as a count of them.
pub length_places : (test : ℕ → Bool) (n : ℕ) → length (places_where test n) ≡ count_of n test
unfolding places_where total
length_places test zero = refl
length_places test (suc n) = at (test n) (length_places test n)
  where
    at : (b : Bool) → length (places_where test n) ≡ count_of n test
        → length (pick b (n ∷ places_where test n) (places_where test n)) ≡ count_of n test + pick b 1 0
    at true e = omega (arith, e)
    at false e = omega (arith, e)

-- One place more, if the test fails there and if it holds.
module _ (test : ℕ → Bool) (n : ℕ) where
  places_more : {b : Bool} → test n ≡ b → places_where test (n + 1) ≡ pick b (n ∷ places_where test n) (places_where test n)
  unfolding places_where
  places_more e = ap (places_where test) (add-one n) ∙ ap (λ (b : Bool). pick b (n ∷ places_where test n) (places_where test n)) e

module _ (q : ℕ) where
  -- One factor.
  pub factored_once : (point : ℕ) (before after : List ℕ) → Multiple q point 1 (PLACES - 1) before before after → FactoredOnce q point before after
  unfolding times_factor
  factored_once point before after M = record { below = M.below; terms = term }
    where
      term : (j : ℕ) → j < PLACES → at after j ≡ times_factor (ops_of q) point (at before) j
      term zero l = M.subtracted.before 0 (omega arith)
      term (suc i) l =
          let place : 1 + i ≡ suc i = omega arith in
          ap (at after) (sym place) ∙ M.subtracted.inside i (omega arith)
          ∙ ap (λ (t : ℕ). sub (ops_of q) (at before t) ((ops_of q).mul point (at before i))) place

  -- Those of the unknown places so far: none, and one more place, known or not.
  module _ (block before : List ℕ) where
    abbrev unknown : ℕ → Bool
    unknown i = is_unknown q (at block i)

    pub factored_none : AllBelow q before → Factored q (places_where (λ i. is_unknown q (at block i)) 0) before before
    unfolding times_factors places_where
    factored_none h = record { below = h; terms = λ j l. refl }

    pub factored_known : (i : ℕ) {after : List ℕ} → at block i < q → Factored q (places_where (λ a. is_unknown q (at block a)) i) before after
        → Factored q (places_where (λ a. is_unknown q (at block a)) (i + 1)) before after
    factored_known i {after} k F = subst (λ (places : List ℕ). Factored q places before after) (sym (places_more unknown i (known_byte k))) F

    pub factored_unknown : (i point : ℕ) {middle after : List ℕ} → q ≤ at block i → Is q point (power (ops_of q) alpha i)
        → Factored q (places_where (λ a. is_unknown q (at block a)) i) before middle → FactoredOnce q point middle after
        → Factored q (places_where (λ a. is_unknown q (at block a)) (i + 1)) before after
    unfolding times_factors
    factored_unknown i point {middle} {after} k is F O =
        subst (λ (places : List ℕ). Factored q places before after) (sym (places_more unknown i (unknown_byte k)))
        (record {
          below = O.below;
          terms = λ j l. O.terms j l ∙ ap (λ (t : ℕ). times_factor (ops_of q) t (at middle) j) is.same
              ∙ factor_ext (ops_of q) (power (ops_of q) alpha i) (at middle) (times_factors (ops_of q) alpha (places_where unknown i) (at before)) j
              (λ a u. F.terms a (omega arith));
        })

  -- A locator without unknown places stays.
  pub included_none : (places : List ℕ) {σ : Locator} → length places ≡ 0 → AllBelow q σ.coefficients → Included q places σ σ
  included_none places {σ} none h =
      record {
        degree = omega (arith, none);
        factored = record {
          below = h;
          terms = λ j l.
              let place : length places + j ≡ j = omega (arith, none) in
              sym (no_factors (ops_of q) alpha (at σ.coefficients) places j none) ∙ ap (times_factors (ops_of q) alpha places (at σ.coefficients)) place;
        };
      }

  -- Modified syndromes: the series itself where no place is unknown, and else the product, moved down.
  module _ (places : List ℕ) (known : ℕ) {before : List ℕ} (first : at before 0 ≡ 1) where
    pub modified_none : length places ≡ 0 → AllBelow q before → Modified q places known before before
    modified_none none h =
        record {
          below = h;
          first = first;
          terms = λ s l.
              let place : length places + s + 1 ≡ length places + (s + 1) = omega arith in
              sym (ap (times_factors (ops_of q) alpha places (at before)) place ∙ no_factors (ops_of q) alpha (at before) places (s + 1) none);
        }

    pub modified_moved : (start count : ℕ) {factored after : List ℕ} → start ≡ length places + 1 → start + count ≡ known + 1 → known < PLACES
        → Factored q places before factored → CopiedTo factored after start 1 count → SameBelow factored after 1 → SameFrom factored after (1 + count)
        → Modified q places known before after
    modified_moved start count {factored} {after} begin end room F moved front rest =
        record {
          below = λ j. all j (dec_lt j 1) (dec_lt j (1 + count));
          first = front 0 0 (omega arith) ∙ F.terms 0 (omega arith) ∙ factors_first (ops_of q) alpha (at before) places ∙ first;
          terms = λ s l.
              let place : start + (s + 1 - 1) ≡ length places + s + 1 = omega (arith, begin) in
              moved (s + 1) 0 (omega arith) (omega (arith, l, begin, end)) ∙ ap (at factored) place ∙ F.terms (length places + s + 1) (omega (arith, l, room));
        }
      where
        all : (j : ℕ) → Dec (j < 1) → Dec (j < 1 + count) → at after j < q
        all j (yes h) e = subst (λ (t : ℕ). t < q) (sym (front j 0 h)) (F.below j)
        all j (no d) (yes h) = subst (λ (t : ℕ). t < q) (sym (moved j 0 (omega arith) h)) (F.below (start + (j - 1)))
        all j (no d) (no e) = subst (λ (t : ℕ). t < q) (sym (rest j 0 (omega arith))) (F.below j)
