-- The levels of a window in turn, from m down (the chain of refusals; 000, Theorem 3.4).
-- Holds: `LevelsFailed` (how far every near y has come once the levels from l on failed), `levels_failed_start`, `levels_failed_next`,
-- `levels_failed_served`, `levels_failed_none`.
use mathlib.Core.Path.{◌≡◌, sym, ap, subst, ◌∙◌}
use mathlib.Core.List.{List}
use Prim.Native.Nat.{ℕ, zero, suc, ◌+◌, ◌*◌, ◌≤◌}
use native.Mathlib.Numerals.{add-one}
use native.Mathlib.Omega.{arith}
use lib.ListN.{get_or}
use Rattle.std.specs.Prelude.{Some, None}
use Rattle.area.specs.Lists.{view}
use Rattle.code.specs.declared.Setting.{Setting}
use Rattle.code.specs.parts.Sound.{Sound}
use Rattle.code.specs.parts.InformationBlocks.{BlocksBelow}
use Rattle.code.proofs.WindowBelow.{first_certain, level_drops, level_ends}
use Rattle.frame.specs.parts.Window.{Near, LevelTried, serves, fails, LevelSearch, served, none_serves}

-- The levels from l on failed: y is near at level l - 1, and not at all if there is none.
reach : Setting → List ℕ → ℕ → (ℕ → ℕ → ℕ) → Type 0
reach p window zero y = ⊥
reach p window (suc l) y = Near p window l y

pub LevelsFailed : Setting → List ℕ → ℕ → Type 0
LevelsFailed p window l = (y : ℕ → ℕ → ℕ) → BlocksBelow p.q y → Near p window p.m y → reach p window l y

pub levels_failed_start : (p : Setting) (window : List ℕ) → LevelsFailed p window (p.m + 1)
unfolding LevelsFailed reach
levels_failed_start p window = subst (LevelsFailed p window) (sym (add-one p.m)) (λ y Y near. near)

module _ (p : Setting) (S : Sound p) (window : List ℕ) where
  pub levels_failed_next : (l : ℕ) → LevelTried p window l None → LevelsFailed p window (suc l) → LevelsFailed p window l
  unfolding LevelsFailed reach
  levels_failed_next zero (fails heavy) reached = λ y Y near. level_ends p S window y (reached y Y near) (heavy y Y (reached y Y near))
  levels_failed_next (suc l) (fails heavy) reached = λ y Y near. level_drops p S window y l (reached y Y near) (heavy y Y (reached y Y near))

  pub levels_failed_served : (l : ℕ) {information : List ℕ} → l ≤ p.m → LevelTried p window l (Some information) → LevelsFailed p window (suc l)
      → LevelSearch p window (Some (record { information = information; blocks = l + 1 }))
  unfolding LevelsFailed reach
  levels_failed_served l {information} low (serves below good) reached =
      served (omega arith) (omega arith) below (λ y Y near r h.
      first_certain p S window y (view p.k information) Y (λ s t. below (s * p.k + t)) l low
      (reached y Y near) good r h
      ∙ (let place : 0 * p.k + r ≡ r = omega arith in ap (λ (t : ℕ). get_or information t 0) place))

pub levels_failed_none : (p : Setting) (window : List ℕ) → LevelsFailed p window 0 → LevelSearch p window None
unfolding LevelsFailed reach
levels_failed_none p window reached = none_serves (λ y Y near. reached y Y near)
