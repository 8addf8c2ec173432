-- The value of a polynomial from that of its rest, the coefficients from a place on (01, "The transmission").
-- Holds: `rest_shorter`, `rest_lent`; `value_of_none`, `value_of_more`, `value_of_all`.
use mathlib.Core.Path.{◌≡◌, sym, ap, ◌∙◌, subst}
use mathlib.Core.List.{List}
use Prim.Native.Nat.{ℕ, suc, ◌-◌, ◌≤◌, ◌<◌}
use native.Mathlib.Omega.{arith}
use lib.ListN.{length, get_or, take, drop, length-take, length-drop}
use lib.Seq.{drop-length, drop-cons}
use borrow.Author.Rules.{part_to_end}
use Rattle.algebra.specs.Polynomial.{value}
use Rattle.field.specs.parts.Operations.{Good, Is}
use Rattle.field.specs.Fields.{ops_of}
use Rattle.field.proofs.Laws.{zero_below}

-- The rest as code makes it, the part of the list from k on, is shorter.
pub rest_shorter : (l : List ℕ) (k t : ℕ) → length l ≡ t → 0 < k → k ≤ length l → length (take (length l - k) (drop k l)) < t
rest_shorter l k t e some within = simp (length-take, length-drop) (omega arith)

module _ (q x : ℕ) where
  -- What the call for that part promises is the value of the rest.
  pub rest_lent : (l : List ℕ) (k r : ℕ) → Is q r (value (ops_of q) (take (length l - k) (drop k l)) x) → Is q r (value (ops_of q) (drop k l) x)
  rest_lent l k r = subst (λ (rest : List ℕ). Is q r (value (ops_of q) rest x)) (part_to_end l k)

  -- Past the last coefficient nothing is left.
  pub value_of_none : (l : List ℕ) → Good q → Is q 0 (value (ops_of q) (drop (length l) l) x)
  unfolding value ops_of
  value_of_none l good = record { same = sym (ap (λ (rest : List ℕ). value (ops_of q) rest x) (drop-length l)); below = zero_below q good }

  -- One coefficient more before the rest.
  pub value_of_more : (l : List ℕ) (i s r : ℕ) → 0 < i → i ≤ length l → s ≡ value (ops_of q) (drop i l) x
      → Is q r ((ops_of q).add (get_or l (i - 1) 0) ((ops_of q).mul x s)) → Is q r (value (ops_of q) (drop (i - 1) l) x)
  unfolding value
  value_of_more l i s r some within e v =
      let next : suc (i - 1) ≡ i = omega arith in
      record {
        same =
            v.same ∙ ap (λ (t : ℕ). (ops_of q).add (get_or l (i - 1) 0) ((ops_of q).mul x t)) (e ∙ ap (λ (k : ℕ). value (ops_of q) (drop k l) x) (sym next))
            ∙ sym (ap (λ (k : List ℕ). value (ops_of q) k x) (drop-cons l (i - 1) 0 (omega arith)));
        below = v.below;
      }

  -- Before no coefficient the rest is the whole.
  pub value_of_all : (l : List ℕ) (i r : ℕ) → i ≤ 0 → Is q r (value (ops_of q) (drop i l) x) → Is q r (value (ops_of q) l x)
  value_of_all l i r none = let first : i ≡ 0 = omega arith in subst (λ (k : ℕ). Is q r (value (ops_of q) (drop k l) x)) first
