-- One place more in the search for the locator, as the code has it: the areas, and the numbers of its state.
-- Holds: `unit_below`, `pair_start`, `pair_kept`, `pair_corrected`, `pair_lengthened`.
use mathlib.Core.Path.{◌≡◌, sym, ap, ap₂, subst, ◌∙◌}
use mathlib.Core.List.{List}
use Prim.Native.Nat.{ℕ, zero, suc, ◌+◌, ◌-◌, ◌≤◌, ◌<◌}
use native.Mathlib.Omega.{arith}
use Rattle.algebra.proofs.Below.{FieldBelow}
use Rattle.field.specs.parts.Operations.{Good, Is}
use Rattle.field.specs.Fields.{ops_of}
use Rattle.field.specs.parts.Sequences.{AllBelow, at}
use Rattle.field.proofs.Laws.{laws_of, zero_below}
use Rattle.block.specs.parts.Locator.{tail, Located}
use Rattle.block.specs.parts.LocatorAreas.{UnitSeries, Multiple, LocatorPair}
use Rattle.block.proofs.LocatorBelow.{start_below, kept_below, corrected_below, grown_below}

module _ (q : ℕ) (good : Good q) where
  B : FieldBelow q (ops_of q)
  B = laws_of q good

  pub unit_below : (l : List ℕ) → UnitSeries l → AllBelow q l
  unit_below l u zero = subst (λ (t : ℕ). t < q) (sym u.first) B.one_below
  unit_below l u (suc i) = subst (λ (t : ℕ). t < q) (sym (u.rest (suc i) (omega arith))) (zero_below q good)

  -- Before the first place both locators are 1.
  pub pair_start : {series l f : List ℕ} → AllBelow q series → at series 0 ≡ 1 → UnitSeries l → UnitSeries f → LocatorPair q series 0 0 0 1 l f
  pair_start {series} {l} {f} h first u v =
      record {
        locator_below = unit_below l u;
        former_below = unit_below f v;
        scale_below = B.one_below;
        located = start_below q (ops_of q) B (at series) (at l) (at f) h (unit_below l u) (unit_below f v) first u.first v.first u.rest v.rest;
      }

  module _ {series locator former : List ℕ} {s next L p scale rest discrepancy : ℕ} (step : suc s ≡ next) (hs : AllBelow q series)
      (h : LocatorPair q series s L p scale locator former)
      (sums : Is q rest (tail (ops_of q) L (at locator) (at series) next)) (fails : Is q discrepancy ((ops_of q).add (at series next) rest)) where
    discrepancy_is : discrepancy ≡ (ops_of q).add (at series (suc s)) (tail (ops_of q) L (at locator) (at series) (suc s))
    discrepancy_is =
        fails.same
        ∙ ap₂ (λ (t u : ℕ). (ops_of q).add (at series t) u) (sym step)
        (sums.same ∙ ap (tail (ops_of q) L (at locator) (at series)) (sym step))

    pub pair_kept : discrepancy ≡ 0 → LocatorPair q series next L p scale locator former
    pair_kept e =
        record {
          locator_below = h.locator_below;
          former_below = h.former_below;
          scale_below = h.scale_below;
          located =
              subst (λ (t : ℕ). Located (ops_of q) (at series) t L p scale (at locator) (at former)) step
              (kept_below q (ops_of q) B (at series) (at locator) (at former) scale hs h.locator_below h.former_below h.scale_below
              h.located (sym discrepancy_is ∙ e ∙ sym B.zero_is));
        }

    module _ {factor : ℕ} {locator' : List ℕ} (multiplied : Is q factor ((ops_of q).mul discrepancy scale))
        (M : Multiple q factor (next - p) (p - L + 1) former locator locator') where
      at_place : next - p + p ≡ suc s
      at_place = omega (arith, step, h.located.placed)

      enough : p - L + 1 + L ≡ suc p
      enough = omega (arith, h.located.grown)

      pub pair_corrected : next ≤ L + L → LocatorPair q series next L p scale locator' former
      pair_corrected l =
          record {
            locator_below = M.below;
            former_below = h.former_below;
            scale_below = h.scale_below;
            located =
                subst (λ (t : ℕ). Located (ops_of q) (at series) t L p scale (at locator') (at former)) step
                (corrected_below q (ops_of q) B (at series) (at locator) (at former) (at locator') scale discrepancy factor (next - p) (p - L + 1)
                hs h.locator_below h.former_below M.below h.scale_below fails.below multiplied.below
                h.located discrepancy_is multiplied.same at_place enough M.subtracted (omega (arith, step)));
          }

      pub pair_lengthened : {scale' : ℕ} → L + L < next → (discrepancy ≡ 0 → ⊥) → Is q scale' ((ops_of q).inv discrepancy)
          → LocatorPair q series next (next - L) next scale' locator' locator
      pair_lengthened l nonzero inverts =
          record {
            locator_below = M.below;
            former_below = h.locator_below;
            scale_below = inverts.below;
            located =
                subst (λ (t : ℕ). Located (ops_of q) (at series) next (next - L) next t (at locator') (at locator)) (sym inverts.same)
                (subst (λ (t : ℕ). Located (ops_of q) (at series) t (t - L) t ((ops_of q).inv discrepancy) (at locator') (at locator)) step
                (grown_below q (ops_of q) B (at series) (at locator) (at former) (at locator') scale discrepancy factor (next - p) (p - L + 1)
                hs h.locator_below h.former_below M.below h.scale_below fails.below multiplied.below
                h.located discrepancy_is multiplied.same at_place enough M.subtracted (omega (arith, step)) nonzero));
          }
