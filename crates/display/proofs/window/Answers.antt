-- `display::window`: none where a question gets "no".
use native.Mathlib.Omega.{arith}
use Rattle.display.proofs.window.Goals as goal

pub slice_bounds-result-end : goal.slice_bounds-result-end
slice_bounds-result-end c = omega arith
