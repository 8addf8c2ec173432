-- One turn at the frame: from what window j says to how far the guess is settled.
-- Holds: `window_clean` (a window near zeros); `search_some`, `search_few`, `search_below`; `advance_none`, `advance_clean`, `advance_found`; `advance_more`, `stopped_none`.
use mathlib.Core.Path.{◌≡◌, refl, sym, subst}
use mathlib.Core.Bool.{Bool, true, false}
use mathlib.Core.List.{List}
use Prim.Native.Nat.{ℕ, ◌+◌, ◌<◌, ◌≤◌}
use native.Mathlib.Omega.{arith}
use lib.ListN.{length, get_or}
use Rattle.std.specs.Prelude.{Some, None}
use Rattle.algebra.proofs.Tests.{false_not_true}
use Rattle.field.specs.parts.Sequences.{AllBelow}
use Rattle.code.specs.declared.Setting.{Setting}
use Rattle.code.specs.Code.{distances_to}
use Rattle.code.specs.parts.Sound.{Sound}
use Rattle.code.specs.Windows.{window_length}
use Rattle.code.specs.parts.Cost.{zero_cost, window_cost}
use Rattle.code.specs.parts.InformationBlocks.{BlocksBelow}
use Rattle.code.specs.parts.Residual.{window_at}
use Rattle.code.proofs.CodeBelow.{positive}
use Rattle.code.proofs.WindowBelow.{zero_cost_lem, first_certain}
use Rattle.frame.specs.declared.window.Found.{Found}
use Rattle.frame.specs.parts.Window.{Near, LevelSearch, served, none_serves}
use Rattle.frame.specs.parts.Frame.{Settled, Added, NoneFits, Advanced, advanced, stopped}
use Rattle.frame.proofs.Guesses.{added_zero}
use Rattle.frame.proofs.Settled.{settled_found, settled_none}

-- A window that costs little against zeros is near the zero information: the first information block of every near y is zero.
pub window_clean : (p : Setting) → Sound p → (window : List ℕ) → length window ≡ window_length p → zero_cost p.q window < distances_to p.n p.k p.m
    → (y : ℕ → ℕ → ℕ) → BlocksBelow p.q y → Near p window p.m y → (r : ℕ) → r < p.k → y 0 r ≡ 0
window_clean p S window long few y Y near r l =
    let same : zero_cost p.q window ≡ window_cost p window p.m (λ s r. 0) = zero_cost_lem p S window long in
    first_certain p S window y (λ s r. 0) Y (λ s r. positive p S) p.m (omega arith) near (omega arith) r l

-- What the levels found: at least one block, no more than the window has, of symbols below q.
module _ {p : Setting} {window : List ℕ} {found : Found} where
  pub search_some : LevelSearch p window (Some found) → 1 ≤ found.blocks
  search_some (served some few below first) = some

  pub search_few : LevelSearch p window (Some found) → found.blocks ≤ p.m + 1
  search_few (served some few below first) = few

  pub search_below : LevelSearch p window (Some found) → AllBelow p.q found.information
  search_below (served some few below first) = below

module _ {p : Setting} (S : Sound p) {T unknown : ℕ} {reception : List ℕ}
    {j : ℕ} {message residual : List ℕ} (P : Settled p T unknown reception j message residual) (l : j < T) {window : List ℕ} (is : window ≡ window_at p residual j) where
  -- No information is near: no message fits, whatever the areas hold.
  pub advance_none : {i : ℕ} {message' residual' : List ℕ} → LevelSearch p window None → Advanced p T unknown reception i message' residual' false
  advance_none (none_serves far) =
      stopped (settled_none p S T unknown reception j message residual P l
      (λ y Y near. far y Y (subst (λ (w : List ℕ). Near p w p.m y) (sym is) near)))

  -- The residual of the window is light: the guess of its first block is right.
  pub advance_clean : length window ≡ window_length p → zero_cost p.q window < distances_to p.n p.k p.m
      → Advanced p T unknown reception (j + 1) message residual true
  advance_clean long_window few =
      advanced (settled_found p S T unknown reception j message residual P (λ r. 0) message residual l
      (λ y Y near r u. window_clean p S window long_window few y Y (subst (λ (w : List ℕ). Near p w p.m y) (sym is) near) r u)
      (added_zero S P.areas (λ r. refl)))

  -- What was found went into the message.
  pub advance_found : {found : Found} {message' residual' : List ℕ} → LevelSearch p window (Some found)
      → Added p T unknown j (λ r. get_or found.information r 0) message residual message' residual'
      → Advanced p T unknown reception (j + 1) message' residual' true
  advance_found {found} {message' = message'} {residual' = residual'} (served some few below first) D =
      advanced (settled_found p S T unknown reception j message residual P (λ r. get_or found.information r 0) message' residual' l
      (λ y Y near r u. first y Y (subst (λ (w : List ℕ). Near p w p.m y) (sym is) near) r u) D)

module _ {p : Setting} {T unknown : ℕ} {reception : List ℕ} {j : ℕ} {message residual : List ℕ} where
  -- A turn that did not stop has advanced..
  pub advance_more : {r : Bool} → Advanced p T unknown reception j message residual r → r ≡ true → Settled p T unknown reception j message residual
  advance_more (advanced settled) e = settled
  advance_more (stopped far) e = absurd (false_not_true e)

  -- .. and one that stopped shows that no message fits, whatever the areas hold.
  pub stopped_none : {r : Bool} → Advanced p T unknown reception j message residual r → r ≡ false → NoneFits p T reception
  stopped_none (advanced settled) e = absurd (false_not_true (sym e))
  stopped_none (stopped far) e = far
