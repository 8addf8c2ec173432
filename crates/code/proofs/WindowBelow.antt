-- One window on bytes: the facts of `Window`, for a setting's window given as a list of bytes of any value.
-- Holds: `zero_cost_lem` (a window's cost against zeros is that of the zero information); `first_certain`, `level_refused`, `level_drops`, `level_ends`.
use mathlib.Core.Path.{◌≡◌, sym, ap, ◌∙◌}
use mathlib.Core.List.{List}
use Prim.Native.Nat.{ℕ, suc, ◌+◌, ◌≤◌, ◌<◌}
use native.Mathlib.Numerals.{add-one}
use native.Mathlib.Omega.{arith}
use lib.ListN.{length, get_or}
use Rattle.algebra.specs.Weight.{total}
use Rattle.algebra.proofs.Weights.{total_ext, total_blocks}
use Rattle.algebra.proofs.Below.{number, number_injective, number_element}
use Rattle.area.specs.Lists.{view}
use Rattle.code.specs.declared.Setting.{Setting}
use Rattle.code.specs.Code.{level_distance, distances_to}
use Rattle.code.specs.Level.{combination}
use Rattle.code.specs.parts.Cost.{symbol_cost, block_cost, rebuilt_cost, level_cost, window_cost, zero_cost}
use Rattle.code.specs.Settings.{code_of}
use Rattle.code.specs.parts.Sound.{Sound}
use Rattle.code.specs.Windows.{window_length}
use Rattle.code.specs.parts.InformationBlocks.{BlocksBelow}
use Rattle.code.proofs.Blocks.{combination_ext}
use Rattle.code.proofs.Differences.{combination_zeros}
use Rattle.code.proofs.Window.{turn_certain, turn_refused}
use Rattle.code.proofs.CodeBelow.{positive, field_of, root_of, order_at, over_field, number_zero, lifted, number_lifted, combination_number}
use Rattle.code.proofs.Cost.{byte_cost, bytes_apart}

module _ (p : Setting) (S : Sound p) where
  -- The costs over the field.
  level_cost_lem : (block : ℕ → ℕ) (l : ℕ) (y : ℕ → ℕ → ℕ) → BlocksBelow p.q y
      → block_cost (over_field p S) (byte_cost p.q) block l (lifted p S y) ≡ level_cost p block l y
  unfolding block_cost
  level_cost_lem block l y Y = total_ext p.n _ _ (λ i h. ap (symbol_cost p.q (block i)) (combination_number p S y l i (λ b r u v. Y b r)))

  combination_none : (l i : ℕ) → combination (code_of p) l (λ s r. 0) i ≡ 0
  unfolding lifted
  combination_none l i =
      sym (combination_number p S (λ s r. 0) l i (λ b r u v. positive p S))
      ∙ ap number (combination_ext (over_field p S) l (lifted p S (λ s r. 0)) (λ s r. (field_of p S).ops.zero) i
      (λ s r u v. number_injective _ _ (number_element p.q (positive p S) 0 (positive p S) ∙ sym (number_zero p S)))
      ∙ combination_zeros (field_of p S) (root_of p S) p.n p.k p.m l i)
      ∙ number_zero p S

  module _ (window : List ℕ) where
    window_cost_lem : (l : ℕ) (y : ℕ → ℕ → ℕ) → BlocksBelow p.q y
        → rebuilt_cost (over_field p S) (byte_cost p.q) (view p.n window) l (lifted p S y) ≡ window_cost p window l y
    unfolding rebuilt_cost
    window_cost_lem l y Y = total_ext (suc l) _ _ (λ s h. level_cost_lem (view p.n window s) s y Y)

    pub zero_cost_lem : length window ≡ window_length p → zero_cost p.q window ≡ window_cost p window p.m (λ s r. 0)
    unfolding rebuilt_cost block_cost
    zero_cost_lem long =
        ap (λ (t : ℕ). total t (λ i. symbol_cost p.q (get_or window i 0) 0)) long
        ∙ total_blocks (p.m + 1) p.n (λ i. symbol_cost p.q (get_or window i 0) 0)
        ∙ ap (λ (t : ℕ). total t (λ s. total p.n (λ i. symbol_cost p.q (view p.n window s i) 0))) (add-one p.m)
        ∙ total_ext (suc p.m) _ _ (λ s h. total_ext p.n _ _ (λ i u. ap (symbol_cost p.q (view p.n window s i)) (sym (combination_none s i))))

    -- Two sequences near blocks 0 .. l have the same first block.
    pub first_certain : (y z : ℕ → ℕ → ℕ) → BlocksBelow p.q y → BlocksBelow p.q z → (l : ℕ) → l ≤ p.m
        → window_cost p window l y < distances_to p.n p.k l → window_cost p window l z < distances_to p.n p.k l → (r : ℕ) → r < p.k → y 0 r ≡ z 0 r
    first_certain y z Y Z l low near good r h =
        sym (number_lifted p S y 0 r (Y 0 r))
        ∙ ap number (turn_certain (field_of p S) (root_of p S) p.n p.k p.m (order_at p S) S.room (byte_cost p.q) (bytes_apart p.q)
        (view p.n window)
        (lifted p S y) (lifted p S z) l low (rw (window_cost_lem l y Y) near) (rw (window_cost_lem l z Z) good) r h)
        ∙ number_lifted p S z 0 r (Z 0 r)

    -- A candidate z of level l that is refused: block l of every near y costs at least d_l.
    pub level_refused : (y z : ℕ → ℕ → ℕ) → BlocksBelow p.q y → BlocksBelow p.q z → (l : ℕ) → l ≤ p.m
        → window_cost p window l y < distances_to p.n p.k l → level_cost p (view p.n window l) l z < level_distance p.n p.k l
        → distances_to p.n p.k l ≤ window_cost p window l z → level_distance p.n p.k l ≤ level_cost p (view p.n window l) l y
    level_refused y z Y Z l low near close bad =
        rw (level_cost_lem (view p.n window l) l y Y) at
        (turn_refused (field_of p S) (root_of p S) p.n p.k p.m (order_at p S) S.room (byte_cost p.q) (bytes_apart p.q) (view p.n window)
        (lifted p S y) (lifted p S z) l low (rw (window_cost_lem l y Y) near) (rw (level_cost_lem (view p.n window l) l z Z) close)
        (rw (window_cost_lem l z Z) bad))

    -- After a refused level the blocks below it are near..
    pub level_drops : (y : ℕ → ℕ → ℕ) (l : ℕ) → window_cost p window (suc l) y < distances_to p.n p.k (suc l)
        → level_distance p.n p.k (suc l) ≤ level_cost p (view p.n window (suc l)) (suc l) y → window_cost p window l y < distances_to p.n p.k l
    unfolding rebuilt_cost distances_to total
    level_drops y l near heavy = omega arith

    -- .. and level 0 is not refused.
    pub level_ends : (y : ℕ → ℕ → ℕ) → window_cost p window 0 y < distances_to p.n p.k 0
        → level_distance p.n p.k 0 ≤ level_cost p (view p.n window 0) 0 y → ⊥
    unfolding rebuilt_cost distances_to total
    level_ends y near heavy = omega arith
