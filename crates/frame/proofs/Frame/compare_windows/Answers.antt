-- `frame::Frame::compare_windows`: each window in turn.
use mathlib.Core.Path.{◌≡◌, refl, subst, ◌∙◌}
use mathlib.Core.Bool.{Bool, true, false}
use mathlib.Core.List.{List}
use Prim.Native.Nat.{ℕ, ◌≤◌, ◌<◌}
use native.Mathlib.Omega.{arith}
use lib.ListN.{length, get_or}
use Rattle.std.specs.Bool.{MatchBool}
use Rattle.std.specs.List.{range_with_len, AllWithin, HoldsAt}
use Rattle.std.proofs.Common.{rules, tests}
use Rattle.std.proofs.lemmas.Iterator.{cases_from_all, YieldsList-from_range}
use Rattle.std.proofs.lemmas.List.FromFn.{get_or-range_with_len, length-range_with_len}
use Rattle.code.specs.declared.Setting.{Setting}
use Rattle.code.specs.Code.{distances_to}
use Rattle.code.specs.parts.Cost.{zero_cost}
use Rattle.code.specs.parts.Residual.{window_at}
use Rattle.frame.specs.parts.Frame.{Compared, all_near, one_far}
use Rattle.frame.proofs.Frame.compare_windows.Goals as goal

module _ (p : Setting) (T : ℕ) (residual : List ℕ) where
  -- Window j is near, or it is far.
  abbrev IsNear : ℕ → Type 0
  IsNear j = zero_cost p.q (window_at p residual j) < distances_to p.n p.k p.m

  abbrev IsFar : ℕ → Type 0
  IsFar j = distances_to p.n p.k p.m ≤ zero_cost p.q (window_at p residual j)

  place : (j : ℕ) → j < T → get_or (range_with_len 0 T) j 0 ≡ j
  place j l = get_or-range_with_len 0 T j 0 l ∙ (omega arith)

  -- The windows that were looked at are those from 0 on.
  compared : (r : Bool) → MatchBool r (AllWithin IsNear (range_with_len 0 T) 0 (length (range_with_len 0 T)))
      ((k : ℕ) × (k < length (range_with_len 0 T)) × HoldsAt IsFar (range_with_len 0 T) k) → Compared p T residual r
  compared true near =
      all_near (λ j l. subst IsNear (place j l) (near j 0 (omega arith) (omega (arith, l, length-range_with_len 0 T))))
  compared false far =
      let l : far.0 < T = omega (arith, far.1, length-range_with_len 0 T) in
      one_far far.0 l (subst IsFar (place far.0 l) (far.2 0))

pub returns : goal.returns
returns c =
    let p = c.args.self.now.tables.now.setting in
    let T = c.args.self.now.blocks in
    let residual = c.args.residual.now in
    compared p T residual c.all.result
    (cases_from_all _ _ c.all.result (IsNear p T residual) (IsFar p T residual) c.all.ensures.ran (YieldsList-from_range 0 T T refl (omega arith))
    (λ x q k. (search (rules, tests), search (rules, tests))) (λ x q k. search (rules, tests)))
