-- `frame::window::Window::try_level`: the block step's answer, and then whether the rebuilt blocks are near.
use mathlib.Core.Path.{◌≡◌, ap₂, ◌∙◌}
use mathlib.Core.List.{List}
use Prim.Native.Nat.{ℕ, ◌+◌, ◌*◌}
use native.Mathlib.Omega.{arith}
use lib.ListN.{length}
use Rattle.area.specs.Lists.{part_at}
use Rattle.area.specs.parts.Weights.{weight_of}
use Rattle.field.specs.parts.Sequences.{at}
use Rattle.code.specs.declared.Setting.{Setting}
use Rattle.code.specs.Windows.{unknown_symbols}
use Rattle.code.proofs.Settings.{level_fits}
use Rattle.frame.proofs.LevelTried.{step_below, tried_far, some_left, tried_near}
use Rattle.frame.proofs.window.Window.try_level.Goals as goal

pub returns-in_err-information : goal.returns-in_err-information
returns-in_err-information c =
    let w = c.args.self.now in
    rw c.from_residual.ensures (tried_far w.tables.now.ready.sound w.symbols.now c.requires (rw c.part-block.ensures.part at c.in_err-information.ensures))

-- The marks' cost and the unknown symbols, of block l as it is lent.
counted : (p : Setting) (l : ℕ) (window marks : List ℕ) {block : List ℕ} {cost unknown : ℕ} → block ≡ part_at p.n l window → length block ≡ p.n
    → cost ≡ 2 * weight_of marks → unknown ≡ unknown_symbols p.q (length block) (at block)
    → cost + unknown ≡ 2 * weight_of marks + unknown_symbols p.q p.n (at (part_at p.n l window))
counted p l window marks part long marked lost =
    ap₂ ◌+◌ marked (lost ∙ ap₂ (λ (n : ℕ) (b : List ℕ). unknown_symbols p.q n (at b)) long part)

pub overflow_add-cost : goal.overflow_add-cost
overflow_add-cost c =
    let w = c.args.self.now in
    let block = c.part-block.ensures in
    omega (
      arith,
      some_left w.tables.now.ready.sound w.symbols.now c.requires (rw block.part at c.in_ok-information.ensures)
          (counted w.tables.now.setting c.args.l w.symbols.now _ block.part block.long c.marked_cost.ensures c.count.ensures) c.distances_to-bound.ensures,
    )

pub overflow_sub-left : goal.overflow_sub-left
overflow_sub-left c =
    let w = c.args.self.now in
    let block = c.part-block.ensures in
    omega (
      arith,
      some_left w.tables.now.ready.sound w.symbols.now c.requires (rw block.part at c.in_ok-information.ensures)
          (counted w.tables.now.setting c.args.l w.symbols.now _ block.part block.long c.marked_cost.ensures c.count.ensures) c.distances_to-bound.ensures,
    )

pub is_near_before-requires : goal.is_near_before-requires
is_near_before-requires c =
    let w = c.args.self.now in
    let t = w.tables.now in
    let block = c.part-block.ensures in
    let fits = level_fits t.setting t.ready.sound c.args.l c.requires in
    let some = some_left t.ready.sound w.symbols.now c.requires (rw block.part at c.in_ok-information.ensures)
    (counted t.setting c.args.l w.symbols.now _ block.part block.long c.marked_cost.ensures c.count.ensures) c.distances_to-bound.ensures in
    (step_below c.in_ok-information.ensures, omega (arith, fits, t.narrow.block), c.requires, omega (arith, some))

pub returns : goal.returns
returns c =
    let w = c.args.self.now in
    let block = c.part-block.ensures in
    rw c.then_some.ensures
    (tried_near w.tables.now.ready.sound w.symbols.now c.requires (rw block.part at c.in_ok-information.ensures)
    (omega (arith, counted w.tables.now.setting c.args.l w.symbols.now _ block.part block.long c.marked_cost.ensures c.count.ensures))
    c.distances_to-bound.ensures c.is_near_before.result c.is_near_before.ensures)
