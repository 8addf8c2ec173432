-- `block::marked_cost`: a weight is no more than a length.
use mathlib.Core.Path.{ap}
use Prim.Native.Nat.{ℕ, ◌*◌}
use native.Mathlib.Omega.{arith}
use Rattle.area.proofs.Weights.{weight_le}
use Rattle.block.proofs.marked_cost.Goals as goal

pub overflow_mul-result : goal.overflow_mul-result
overflow_mul-result c = omega (arith, weight_le c.args.marks.now, c.weight.ensures)

pub returns : goal.returns
returns c = ap (λ (t : ℕ). 2 * t) c.weight.ensures
