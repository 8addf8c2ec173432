-- `block::marks::mark`: the symbols before i are marked, and cost less than the bound, with all unknown ones.
use mathlib.Core.Bool.{not, ◌&&◌}
use mathlib.Core.Path.{◌≡◌, sym, ap, ◌∙◌}
use Prim.Native.Nat.{ℕ, ◌+◌}
use native.Mathlib.Omega.{arith}
use lib.Dec.{eqb}
use lib.ListN.{length, replicate, length-set}
use Rattle.algebra.proofs.Weights.{one_le, total_none, total_part, total_more, count_of_le}
use Rattle.area.specs.Lists.{view}
use Rattle.field.specs.Symbols.{is_unknown}
use Rattle.field.specs.parts.Sequences.{at}
use Rattle.code.specs.parts.Cost.{block_cost}
use Rattle.code.proofs.Cost.{cost_count}
use Rattle.block.specs.parts.Marking.{within, beyond}
use Rattle.block.proofs.Marking.{mark_set, repaired, mark, marked_start, marked_more, marked_all}
use Rattle.block.proofs.marks.mark.Goals as goal

pub loop-i-init : goal.loop-i-init
loop-i-init c =
    let b = c.args.combination.now in
    let p = b.tables.now.setting in
    let x = view p.k b.information.now in
    (omega arith, omega (arith, total_none (mark p c.args.block.now b.l x)), c.requires.3, marked_start p c.args.block.now b.l x c.requires.1)

pub overflow_add-cost : goal.overflow_add-cost
overflow_add-cost c =
    let l = c.loop-i in
    let t = c.args.combination.now.tables.now in
    omega (
      arith,
      l.invariant.0,
      t.narrow.block,
      c.requires.0,
      c.requires.2,
      count_of_le (length c.args.block.now) (λ i. is_unknown t.setting.q (at c.args.block.now i)),
      c.from-in-loop-i.ensures,
    )

pub returns-then-bound-cost : goal.returns-then-bound-cost
unfolding block_cost
returns-then-bound-cost c =
    let l = c.loop-i in
    let b = c.args.combination.now in
    let p = b.tables.now.setting in
    let x = view p.k b.information.now in
    let marks = mark p c.args.block.now b.l x in
    let set = mark_set p.q (at c.args.block.now l.i) c.symbol.ensures.same (rw c.from.ensures at c.from-mark.ensures) in
    beyond
    (omega (
      arith,
      c.if-bound-cost.true,
      l.invariant.1,
      total_more marks l.i c.from-mark.result (sym set),
      c.from-in-loop-i.ensures,
      total_part marks (l.i + 1) p.n (omega arith),
      rw c.requires.0 at c.requires.2,
      cost_count p.q p.n (at c.args.block.now) (repaired p c.args.block.now b.l x),
    ))
    (c.fill.ensures.after (λ y e. e) ∙ ap (λ (t : ℕ). replicate t 0) (length-set l.marks l.i _ ∙ l.invariant.3.long))

pub loop-i-preserved : goal.loop-i-preserved
loop-i-preserved c =
    let l = c.loop-i in
    let b = c.args.combination.now in
    let p = b.tables.now.setting in
    let x = view p.k b.information.now in
    let marks = mark p c.args.block.now b.l x in
    let set = mark_set p.q (at c.args.block.now l.i) c.symbol.ensures.same (rw c.from.ensures at c.from-mark.ensures) in (
      omega (
        arith,
        l.invariant.0,
        c.from-in-loop-i.ensures,
        set,
        one_le (not (is_unknown p.q (at c.args.block.now l.i)) && not (eqb (at c.args.block.now l.i) (repaired p c.args.block.now b.l x l.i))),
      ),
      omega (arith, l.invariant.1, total_more marks l.i c.from-mark.result (sym set), c.from-in-loop-i.ensures),
      c.if-bound-cost.false,
      marked_more p c.args.block.now b.l x l.invariant.3 (omega arith) set,
    )

pub returns : goal.returns
unfolding block_cost
returns c =
    let l = c.loop-i in
    let b = c.args.combination.now in
    let p = b.tables.now.setting in
    let x = view p.k b.information.now in
    let done : l.i ≡ p.n = omega arith in
    within
    (omega (
      arith,
      rw done at l.invariant.1,
      l.invariant.2,
      rw c.requires.0 at c.requires.2,
      cost_count p.q p.n (at c.args.block.now) (repaired p c.args.block.now b.l x),
    ))
    (marked_all p c.args.block.now b.l x (rw done at l.invariant.3))
