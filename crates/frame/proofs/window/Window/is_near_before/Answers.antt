-- `frame::window::Window::is_near_before`: what blocks 0 .. s - 1 cost and what they leave of the bound make up the bound, and they leave some of it.
use mathlib.Core.List.{List}
use mathlib.Core.Path.{◌≡◌, refl, sym, ap, ◌∙◌}
use Prim.Native.Nat.{ℕ, ◌+◌, ◌*◌, ◌≤◌, ◌<◌, min}
use native.Mathlib.Nat.{mul-le-mul_right}
use native.Mathlib.Omega.{arith}
use borrow.Author.Tests.{lt-ltb, le-ltb}
use Rattle.algebra.specs.Weight.{total}
use Rattle.algebra.proofs.Weights.{total_none, total_part, total_more}
use Rattle.area.specs.Lists.{view, part_at}
use Rattle.field.specs.parts.Sequences.{at}
use Rattle.code.specs.declared.Setting.{Setting}
use Rattle.code.specs.parts.Cost.{level_cost}
use Rattle.frame.specs.parts.Window.{rebuilt_term, cost_before}
use Rattle.frame.proofs.RebuiltCost.{part_cost}
use Rattle.frame.proofs.window.Window.is_near_before.Goals as goal

-- Block s lies within the window.
inside : (s l m n long : ℕ) → s < l → l ≤ m → long ≡ (m + 1) * n → s * n + n ≤ long
inside s l m n long low few e =
    let top : s + 1 ≤ m + 1 = omega arith in
    omega (arith, mul-le-mul_right n top)

-- What block s costs, up to what is left of the bound, is its term of the sum.
counted : (p : Setting) (s left cost : ℕ) {block : List ℕ} (window : List ℕ) (y : ℕ → ℕ → ℕ) → block ≡ part_at p.n s window
    → min left cost ≡ min left (level_cost p (at block) s y) → min left cost ≡ min left (rebuilt_term p window y s)
counted p s left cost window y is same = (rw is at same) ∙ ap (min left) (part_cost p s s window y)

pub loop-s-init : goal.loop-s-init
loop-s-init c =
    let a = c.args in
    let p = a.self.now.tables.now.setting in
    (omega (arith, total_none (rebuilt_term p a.self.now.symbols.now (view p.k a.information.now))), c.requires.3)

pub returns-then-left-cost : goal.returns-then-left-cost
returns-then-left-cost c =
    let a = c.args in
    let p = a.self.now.tables.now.setting in
    let l = c.loop-s in
    let y = view p.k a.information.now in
    let term = rebuilt_term p a.self.now.symbols.now y in
    let same = counted p l.s l.left c.cost_against-cost.result a.self.now.symbols.now y c.part-block.ensures.part c.cost_against-cost.ensures in
    sym (le-ltb (cost_before p a.self.now.symbols.now a.l y) a.bound
    (omega (
      arith,
      c.if-left-cost.true,
      l.invariant.0,
      same,
      total_more term l.s (term l.s) refl,
      total_part term (l.s + 1) a.l (omega arith),
    )))

pub loop-s-preserved : goal.loop-s-preserved
loop-s-preserved c =
    let a = c.args in
    let p = a.self.now.tables.now.setting in
    let l = c.loop-s in
    let y = view p.k a.information.now in
    let term = rebuilt_term p a.self.now.symbols.now y in
    let same = counted p l.s l.left c.cost_against-cost.result a.self.now.symbols.now y c.part-block.ensures.part c.cost_against-cost.ensures in (
      omega (arith, c.if-left-cost.false, l.invariant.0, same, total_more term l.s (term l.s) refl),
      omega (arith, c.if-left-cost.false),
    )

pub returns : goal.returns
returns c =
    let a = c.args in
    let p = a.self.now.tables.now.setting in
    let l = c.loop-s in
    let y = view p.k a.information.now in
    let done : l.s ≡ a.l = omega arith in
    sym (lt-ltb (cost_before p a.self.now.symbols.now a.l y) a.bound
    (omega (arith, l.invariant.0, l.invariant.1, ap (λ (t : ℕ). total t (rebuilt_term p a.self.now.symbols.now y)) done)))
