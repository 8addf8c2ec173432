-- The windows of a frame. Holds: `window_inside` (a window lies within the frame), `length_window_at`.
use mathlib.Core.Path.{◌≡◌}
use mathlib.Core.List.{List}
use Prim.Native.Nat.{ℕ, ◌+◌, ◌*◌, ◌≤◌, ◌<◌}
use native.Mathlib.Nat.{mul-le-mul_right}
use native.Mathlib.Omega.{arith}
use lib.ListN.{length, drop, length-drop}
use lib.Seq.{length-take-le}
use Rattle.code.specs.declared.Setting.{Setting}
use Rattle.code.specs.Windows.{window_length}
use Rattle.code.specs.parts.Residual.{frame_length, window_at}

-- Window j of a frame of T information blocks, j < T, ends within it.
pub window_inside : (p : Setting) (T j : ℕ) → j < T → j * p.n + window_length p ≤ frame_length p T
window_inside p T j l = let top : j + (p.m + 1) ≤ T + p.m = omega arith in omega (arith, mul-le-mul_right p.n top)

pub length_window_at : (p : Setting) (frame : List ℕ) (j : ℕ) → j * p.n + window_length p ≤ length frame → length (window_at p frame j) ≡ window_length p
length_window_at p frame j room = length-take-le (window_length p) (drop (j * p.n) frame) (omega (arith, length-drop (j * p.n) frame, room))
