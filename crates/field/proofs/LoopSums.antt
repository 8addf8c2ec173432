-- A loop that adds up: what its sum is before the first term, and after one more.
-- Holds: `sum_none`, `sum_more`.
use mathlib.Core.Path.{◌≡◌, refl, sym, ap, ap₂, ◌∙◌}
use Prim.Native.Nat.{ℕ, ◌+◌}
use native.Mathlib.Numerals.{add-one}
use Rattle.algebra.specs.Sum.{sum}
use Rattle.field.specs.parts.Operations.{Good, Is}
use Rattle.field.specs.Fields.{ops_of}
use Rattle.field.proofs.Laws.{zero_below}

module _ (q : ℕ) (f : ℕ → ℕ) where
  pub sum_none : Good q → Is q 0 (sum (ops_of q) 0 f)
  unfolding sum ops_of
  sum_none good = record { same = refl; below = zero_below q good }

  pub sum_more : (a s v r : ℕ) → Is q s (sum (ops_of q) a f) → v ≡ f a → Is q r ((ops_of q).add s v) → Is q r (sum (ops_of q) (a + 1) f)
  unfolding sum
  sum_more a s v r h term e =
      record {
        same = e.same ∙ ap₂ (ops_of q).add h.same term ∙ ap (λ (t : ℕ). sum (ops_of q) t f) (sym (add-one a));
        below = e.below;
      }
