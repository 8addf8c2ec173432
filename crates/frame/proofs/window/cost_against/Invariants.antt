-- `frame::window::cost_against`: the cost is that of the first i symbols, which is no more than that of all.
use Prim.Native.Nat.{◌*◌, ◌≤◌}
use mathlib.Core.Path.{◌≡◌}
use Rattle.algebra.specs.Weight.{total}
use Rattle.frame.proofs.RebuiltCost.{cost_at}
use Rattle.frame.proofs.window.cost_against.Given as goal

abbrev pub invariant-loop-i : goal.invariant-loop-i
invariant-loop-i l = (l.cost ≤ 2 * l.i) × (l.cost ≡ total l.i (cost_at l.rebuilt l.block))
