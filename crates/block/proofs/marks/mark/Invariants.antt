-- `block::marks::mark`: the symbols before i are marked, and cost less than the bound, with all unknown ones.
use mathlib.Core.Path.{◌≡◌}
use Prim.Native.Nat.{◌+◌, ◌*◌, ◌≤◌, ◌<◌}
use Rattle.algebra.specs.Weight.{total}
use Rattle.area.specs.Lists.{view}
use Rattle.block.proofs.Marking.{mark, MarkedTo}
use Rattle.block.proofs.marks.mark.Given as goal

abbrev pub invariant-loop-i : goal.invariant-loop-i
invariant-loop-i l =
    let c = l.combination in
    let p = c.tables.now.setting in
    let x = view p.k c.information.now in
    (l.cost ≤ l.unknown + 2 * l.i) × (l.cost ≡ l.unknown + 2 * total l.i (mark p l.block c.l x)) × (l.cost < l.bound) × MarkedTo p l.block c.l x l.i l.marks
