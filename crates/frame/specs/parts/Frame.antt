-- Reading a frame: the windows in turn, then the last comparison (01, "Reading a reception").
-- Holds: `FrameAreas`, `Settled`, `Revised`, `Adjusted`, `Added`, `NoneFits`, `Advanced`, `Turned`, `FrameRead`, `Compared`.
use Rattle.std.specs.Prelude.{◌≡◌, Bool, true, false, List, ℕ, ◌+◌, ◌*◌, ◌≤◌, ◌<◌, length, get_or, set}
use Rattle.field.specs.Fields.{ops_of}
use Rattle.field.specs.Symbols.{Symbols}
use Rattle.code.specs.declared.Setting.{Setting}
use Rattle.code.specs.Code.{distances_to}
use Rattle.code.specs.Windows.{Fits}
use Rattle.code.specs.parts.Cost.{zero_cost}
use Rattle.code.specs.parts.Residual.{IsResidual, frame_length, window_at}

-- The areas of a frame: a guessed message of T blocks, and the residual, for it, of a reception with so many unknown symbols; it matters whether there are any.
pub record FrameAreas (p : Setting) (T unknown : ℕ) (message residual : List ℕ) : Type 0 where
  pub message_long : length message ≡ T * p.k
  pub message_symbols : Symbols p.q message
  pub residual_long : length residual ≡ frame_length p T
  pub residual_symbols : unknown ≡ 0 → Symbols p.q residual

-- A guessed message and the residual of the reception for it; every message that fits equals the guess before block j.
pub record Settled (p : Setting) (T unknown : ℕ) (reception : List ℕ) (j : ℕ) (message residual : List ℕ) : Type 0 where
  pub areas : FrameAreas p T unknown message residual
  pub is_residual : IsResidual p T reception message residual
  pub begins : (x : List ℕ) → Fits p T reception x → (i : ℕ) → i < j * p.k → get_or x i 0 ≡ get_or message i 0

-- The guess was changed from block i on, and the residual with it.
pub record Revised (p : Setting) (T unknown i : ℕ) (message residual message' residual' : List ℕ) : Type 0 where
  pub areas : FrameAreas p T unknown message' residual'
  pub before : (a : ℕ) → a < i * p.k → get_or message' a 0 ≡ get_or message a 0
  pub is_residual : (reception : List ℕ) → IsResidual p T reception message residual → IsResidual p T reception message' residual'

-- v was added to symbol r of block i of the guess.
pub record Adjusted (p : Setting) (T unknown i r v : ℕ) (message residual message' residual' : List ℕ) : Type 0 where
  pub revised : Revised p T unknown i message residual message' residual'
  pub added : message' ≡ set message (i * p.k + r) ((ops_of p.q).add (get_or message (i * p.k + r) 0) v)

-- The information block x was added to block i of the guess, if there is one.
pub record Added (p : Setting) (T unknown i : ℕ) (x : ℕ → ℕ) (message residual message' residual' : List ℕ) : Type 0 where
  pub revised : Revised p T unknown i message residual message' residual'
  pub symbol : (r : ℕ) → i < T → r < p.k → get_or message' (i * p.k + r) 0 ≡ (ops_of p.q).add (get_or message (i * p.k + r) 0) (x r)

-- No message fits.
abbrev pub NoneFits : Setting → ℕ → List ℕ → Type 0
NoneFits p T reception = (x : List ℕ) → Fits p T reception x → ⊥

-- The windows before j were read; or one had no near information, and no message fits.
pub data Advanced (p : Setting) (T unknown : ℕ) (reception : List ℕ) (j : ℕ) (message residual : List ℕ) : Bool → Type 0 where
  advanced : Settled p T unknown reception j message residual → Advanced p T unknown reception j message residual true
  stopped : NoneFits p T reception → Advanced p T unknown reception j message residual false

-- A turn at window j, which knows the residual and not what was received: of every reception with this residual, the windows before j+1 were read.
pub record Turned (p : Setting) (T unknown j : ℕ) (message residual message' residual' : List ℕ) (r : Bool) : Type 0 where
  pub advances : (reception : List ℕ) → Settled p T unknown reception j message residual
      → Advanced p T unknown reception (j + 1) message' residual' r

-- The message fits, with its residual; or no message does.
pub data FrameRead (p : Setting) (T : ℕ) (reception message residual : List ℕ) : Bool → Type 0 where
  fits : Fits p T reception message → length residual ≡ length reception → IsResidual p T reception message residual
      → FrameRead p T reception message residual true
  none : NoneFits p T reception → FrameRead p T reception message residual false

-- The last comparison: every window of the residual costs at most d against zeros, that is less than d_0 + .. + d_m; or one costs more.
pub data Compared (p : Setting) (T : ℕ) (residual : List ℕ) : Bool → Type 0 where
  all_near : ((j : ℕ) → j < T → zero_cost p.q (window_at p residual j) < distances_to p.n p.k p.m)
      → Compared p T residual true
  one_far : (j : ℕ) → j < T → distances_to p.n p.k p.m ≤ zero_cost p.q (window_at p residual j)
      → Compared p T residual false
