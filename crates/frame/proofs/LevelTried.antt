-- One level of a window, from the block step's answer and the cost of the rebuilt blocks.
-- Holds: `step_below`, `tried_far`, `some_left`, `tried_near`.
use mathlib.Core.Path.{◌≡◌, sym, ap, ◌∙◌}
use mathlib.Core.Bool.{Bool, true, false}
use mathlib.Core.List.{List}
use Prim.Native.Nat.{ℕ, ◌+◌, ◌-◌, ◌*◌, ◌≤◌, ◌<◌}
use native.Mathlib.Omega.{arith}
use lib.Dec.{ltb}
use borrow.Author.Tests.{ltb-true, ltb-false}
use Rattle.std.specs.Prelude.{Some, None}
use Rattle.std.specs.Bool.{then_some}
use Rattle.area.specs.Lists.{view, part_at}
use Rattle.area.specs.parts.Weights.{weight_of}
use Rattle.field.specs.parts.Sequences.{AllBelow, at}
use Rattle.code.specs.declared.Setting.{Setting}
use Rattle.code.specs.Code.{level_distance, distances_to}
use Rattle.code.specs.parts.Sound.{Sound}
use Rattle.code.specs.Windows.{unknown_symbols}
use Rattle.code.specs.parts.Cost.{level_cost}
use Rattle.code.proofs.Distances.{distances_last}
use Rattle.code.proofs.WindowBelow.{level_refused}
use Rattle.block.specs.parts.Step.{Step, near, far}
use Rattle.block.proofs.Marking.{marks_cost}
use Rattle.frame.specs.parts.Window.{cost_before, LevelTried, serves, fails}
use Rattle.frame.proofs.RebuiltCost.{rebuilt_all, part_cost}

-- The block step's information has symbols below q.
pub step_below : {p : Setting} {l : ℕ} {block marks information : List ℕ} → Step p l block marks (Some information) → AllBelow p.q information
step_below (near below close marked) = below

module _ {p : Setting} (S : Sound p) (window : List ℕ) {marks : List ℕ} {l : ℕ} (level : l ≤ p.m) where
  pub tried_far : Step p l (part_at p.n l window) marks None → LevelTried p window l None
  tried_far (far none unset) = fails (λ y Y h. rw (part_cost p l l window y) at (none y (λ b r u v. Y b r)))

  -- A block was found, and its cost counted from the marks and its unknown symbols.
  module _ {information : List ℕ} (step : Step p l (part_at p.n l window) marks (Some information)) {cost : ℕ}
      (counted : cost ≡ 2 * weight_of marks + unknown_symbols p.q p.n (at (part_at p.n l window))) where
    cost_of : Step p l (part_at p.n l window) marks (Some information) → cost ≡ level_cost p (view p.n window l) l (view p.k information)
    cost_of (near below close marked) =
        counted ∙ ap (λ (m : List ℕ). 2 * weight_of m + unknown_symbols p.q p.n (at (part_at p.n l window))) marked ∙ marks_cost p (part_at p.n l window) l (view p.k information)
        ∙ part_cost p l l window (view p.k information)

    close_of : Step p l (part_at p.n l window) marks (Some information)
        → level_cost p (view p.n window l) l (view p.k information) < level_distance p.n p.k l
    close_of (near below close marked) = rw (part_cost p l l window (view p.k information)) at close

    module _ {bound : ℕ} (same : bound ≡ distances_to p.n p.k l) where
      -- It leaves some of d_0 + .. + d_l for the blocks before block l.
      pub some_left : cost < bound
      some_left = omega (arith, same, cost_of step, close_of step, distances_last p.n p.k l)

      -- Whether the blocks before block l cost less than what is left decides.
      pub tried_near : (b : Bool) → b ≡ ltb (cost_before p window l (view p.k information)) (bound - cost) → LevelTried p window l (then_some b information)
      tried_near true e =
          let less = ltb-true (cost_before p window l (view p.k information)) (bound - cost) (sym e) in
          serves (step_below step) (omega (arith, less, same, cost_of step, rebuilt_all p window (view p.k information) l))
      tried_near false e =
          let least = ltb-false (cost_before p window l (view p.k information)) (bound - cost) (sym e) in
          fails (λ y Y good. level_refused p S window y (view p.k information) Y (λ s r. step_below step (s * p.k + r)) l level good (close_of step)
          (omega (arith, least, same, some_left, cost_of step, rebuilt_all p window (view p.k information) l)))
