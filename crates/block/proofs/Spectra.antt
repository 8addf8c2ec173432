-- The loops on spectra: their promises before the first turn, and after one more.
-- Holds: `point_none`, `point_more`, `spectrum_more`, `known_none`; `tail_ext`, `continued_more`.
use mathlib.Core.Path.{◌≡◌, refl, sym, ap, ap₂, subst, ◌∙◌}
use mathlib.Core.List.{List}
use Prim.Native.Nat.{ℕ, ◌+◌, ◌-◌, ◌<◌}
use native.Mathlib.Numerals.{add-one}
use native.Mathlib.Omega.{arith}
use lib.ListN.{length, get_or, set}
use lib.Seq.{get_or-set_other}
use Rattle.algebra.specs.Ops.{Ops}
use Rattle.algebra.specs.Sum.{power}
use Rattle.algebra.specs.Polynomial.{value}
use Rattle.algebra.proofs.Sums.{sum_ext}
use Rattle.area.proofs.Lists.{stored}
use Rattle.field.specs.parts.Operations.{Good, Is}
use Rattle.field.specs.Fields.{ops_of, alpha}
use Rattle.field.specs.parts.Sequences.{at}
use Rattle.field.proofs.Laws.{laws_of}
use Rattle.field.proofs.Symbols.{below_set}
use Rattle.block.specs.declared.spectrum.Spectrum.{Spectrum}
use Rattle.block.specs.parts.Locator.{tail}
use Rattle.block.specs.parts.LocatorAreas.{UnitSeries}
use Rattle.block.specs.parts.Spectrum.{SpectrumOf, SpectrumKnown, Continued}
use Rattle.block.proofs.LocatorPair.{unit_below}

module _ (q : ℕ) where
  pub point_none : Good q → Is q 1 (power (ops_of q) alpha 0)
  unfolding power ops_of
  point_none good = record { same = refl; below = (laws_of q good).one_below }

  pub point_more : (s point r : ℕ) → Is q point (power (ops_of q) alpha s) → Is q r ((ops_of q).mul 2 point) → Is q r (power (ops_of q) alpha (s + 1))
  unfolding power
  point_more s point r h e =
      record { same = e.same ∙ ap ((ops_of q).mul 2) h.same ∙ ap (power (ops_of q) alpha) (sym (add-one s)); below = e.below }

  spectrum_none : (block l : List ℕ) → Good q → UnitSeries l → SpectrumOf q block 0 l
  spectrum_none block l good u = record { below = unit_below q good l u; first = u.first; values = λ s h. absurd (omega arith) }

  pub known_none : (block : List ℕ) (s : Spectrum) → Good q → s.known ≡ 0 → UnitSeries s.series → s.point ≡ 1 → SpectrumKnown q block s
  known_none block s good none unit point =
      record {
        spectral = subst (λ (t : ℕ). SpectrumOf q block t s.series) (sym none) (spectrum_none block s.series good unit);
        next = subst (λ (t : ℕ). Is q s.point (power (ops_of q) alpha t)) (sym none)
            (subst (λ (t : ℕ). Is q t (power (ops_of q) alpha 0)) (sym point) (point_none good));
      }

  pub spectrum_more : (block series : List ℕ) (s point v : ℕ) → SpectrumOf q block s series → s + 1 < length series → Is q point (power (ops_of q) alpha s)
      → Is q v (value (ops_of q) block point) → SpectrumOf q block (s + 1) (set series (s + 1) v)
  spectrum_more block series s point v h room at_point is_value =
      record {
        below = below_set q series (s + 1) v h.below is_value.below;
        first = get_or-set_other series (s + 1) 0 v 0 (omega arith) ∙ h.first;
        values = stored series (λ t. t + 1) (λ t. value (ops_of q) block (power (ops_of q) alpha t)) s v room
            (is_value.same ∙ ap (value (ops_of q) block) at_point.same) (λ t l. omega arith) h.values;
      }

-- A tail at a place looks only at earlier terms.
pub tail_ext : {F : Type 0} (o : Ops F) (L : ℕ) (σ c d : ℕ → F) (j : ℕ) → 0 < j → ((i : ℕ) → i < j → c i ≡ d i) → tail o L σ c j ≡ tail o L σ d j
unfolding tail
tail_ext o L σ c d j h same =
    sum_ext o L (λ a. o.mul (σ (a + 1)) (c (j - (a + 1)))) (λ a. o.mul (σ (a + 1)) (d (j - (a + 1))))
    (λ a l. ap (o.mul (σ (a + 1))) (same (j - (a + 1)) (omega arith)))

module _ (q L r : ℕ) (locator before : List ℕ) where
  pub continued_more : (u : ℕ) (after values : List ℕ) (rest v w : ℕ) → Continued q L r u locator before after values → r + 1 + u < length after
      → u < length values
      → Is q rest (tail (ops_of q) L (at locator) (at after) (r + 1 + u)) → Is q v ((ops_of q).add (at after (r + 1 + u)) rest) → Is q w ((ops_of q).neg rest)
      → Continued q L r (u + 1) locator before (set after (r + 1 + u) w) (set values u v)
  continued_more u after values rest v w h room values_room is_tail is_sum is_negative =
      record {
        below = below_set q after (r + 1 + u) w h.below is_negative.below;
        values_below = below_set q values u v h.values_below is_sum.below;
        extended =
            record {
              kept = λ j l. other j (omega arith) ∙ h.extended.kept j l;
              recurs = stored after (λ t. r + 1 + t) (λ t. (ops_of q).neg (later t)) u w room
                  (is_negative.same ∙ ap (ops_of q).neg (is_tail.same ∙ tails u (omega arith))) (λ t l. omega arith)
                  (λ t l. h.extended.recurs t l ∙ ap (ops_of q).neg (tails t (omega arith)));
              difference = stored values (λ t. t) (λ t. (ops_of q).add (get_or before (r + 1 + t) 0) (later t)) u v values_room
                  (is_sum.same ∙ ap₂ (ops_of q).add (h.beyond (r + 1 + u) (omega arith)) (is_tail.same ∙ tails u (omega arith))) (λ t l. omega arith)
                  (λ t l. h.extended.difference t l ∙ ap ((ops_of q).add (get_or before (r + 1 + t) 0)) (tails t (omega arith)));
            };
        beyond = λ j l. other j (omega arith) ∙ h.beyond j (omega arith);
      }
    where
      other : (j : ℕ) → (j ≡ r + 1 + u → ⊥) → get_or (set after (r + 1 + u) w) j 0 ≡ get_or after j 0
      other j d = get_or-set_other after (r + 1 + u) j w 0 d

      -- A tail of what there is then: the same, since it looks only at earlier terms.
      later : ℕ → ℕ
      later t = tail (ops_of q) L (at locator) (at (set after (r + 1 + u) w)) (r + 1 + t)

      tails : (t : ℕ) → t < u + 1 → tail (ops_of q) L (at locator) (at after) (r + 1 + t) ≡ tail (ops_of q) L (at locator) (at (set after (r + 1 + u) w))
          (r + 1 + t)
      tails t l = tail_ext (ops_of q) L (at locator) (at after) (at (set after (r + 1 + u) w)) (r + 1 + t) (omega arith) (λ i s. sym (other i (omega arith)))
