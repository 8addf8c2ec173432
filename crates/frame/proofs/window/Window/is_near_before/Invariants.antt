-- `frame::window::Window::is_near_before`: what blocks 0 .. s - 1 cost and what they leave of the bound make up the bound, and they leave some of it.
use mathlib.Core.Path.{◌≡◌}
use Prim.Native.Nat.{◌+◌, ◌<◌}
use Rattle.algebra.specs.Weight.{total}
use Rattle.area.specs.Lists.{view}
use Rattle.frame.specs.parts.Window.{rebuilt_term}
use Rattle.frame.proofs.window.Window.is_near_before.Given as goal

abbrev pub invariant-loop-s : goal.invariant-loop-s
invariant-loop-s l =
    (total l.s (rebuilt_term l.self.tables.now.setting l.self.symbols.now (view l.self.tables.now.setting.k l.information)) + l.left ≡ l.bound) × (0 < l.left)
