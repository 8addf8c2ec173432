-- `frame::window::cost_against`: the cost is that of the first i symbols, which is no more than that of all.
use Prim.Native.Nat.{ℕ, ◌+◌, min}
use mathlib.Core.Path.{◌≡◌, sym, ap, ◌∙◌}
use native.Mathlib.Omega.{arith}
use Rattle.algebra.proofs.Weights.{total_none, total_part, total_more}
use Rattle.field.specs.parts.Sequences.{at}
use Rattle.code.specs.parts.Cost.{symbol_cost, block_cost}
use Rattle.frame.proofs.RebuiltCost.{cost_at}
use Rattle.frame.proofs.window.cost_against.Goals as goal

pub loop-i-init : goal.loop-i-init
loop-i-init c = (omega arith, total_none (cost_at c.args.rebuilt.now c.args.block.now))

pub returns-then-bound-cost : goal.returns-then-bound-cost
unfolding block_cost
returns-then-bound-cost c =
    let a = c.args in
    let l = c.loop-i in
    let x = a.rebuilt.now in
    omega (arith, c.if-bound-cost.true, l.invariant.1, total_part (cost_at x a.block.now) l.i x.tables.now.setting.n (omega arith))

pub loop-i-preserved : goal.loop-i-preserved
loop-i-preserved c =
    let l = c.loop-i in
    let x = c.args.rebuilt.now in
    let costs = cost_at x c.args.block.now in (
      omega (arith, c.symbol_cost-cost.ensures.most, l.invariant.0),
      ap (λ (t : ℕ). t + c.symbol_cost-cost.result) l.invariant.1 ∙ total_more costs l.i c.symbol_cost-cost.result (sym (c.symbol_cost-cost.ensures.cost
          ∙ ap (symbol_cost x.tables.now.setting.q (at c.args.block.now l.i)) c.symbol.ensures.same)),
    )

pub returns : goal.returns
unfolding block_cost
returns c =
    let l = c.loop-i in
    let done : l.i ≡ c.args.rebuilt.now.tables.now.setting.n = omega arith in
    ap (min c.args.bound) (rw done at l.invariant.1)
