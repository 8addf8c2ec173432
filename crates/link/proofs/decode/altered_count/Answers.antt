-- `link::decode::altered_count`: the known symbols that are not zero, of the blocks before the closing ones.
use mathlib.Core.Path.{◌≡◌, ◌∙◌}
use mathlib.Core.List.{List}
use Prim.Native.Nat.{ℕ, ◌*◌, ◌≤◌}
use native.Mathlib.Omega.{arith}
use lib.ListN.{length}
use Rattle.area.specs.parts.Weights.{weight_of}
use Rattle.area.proofs.Parts.{front_count, front_weight}
use Rattle.field.specs.Symbols.{is_unknown}
use Rattle.field.specs.parts.Sequences.{at}
use Rattle.code.specs.declared.Setting.{Setting}
use Rattle.code.specs.Windows.{unknown_symbols}
use Rattle.code.proofs.CodeBelow.{positive}
use Rattle.code.proofs.Cost.{known_nonzero}
use Rattle.link.proofs.decode.altered_count.Goals as goal

-- The unknown symbols of a list are among those that are not zero.
among : {q w u : ℕ} (l : List ℕ) → 1 ≤ q → w ≡ weight_of l → u ≡ unknown_symbols q (length l) (at l) → u ≤ w
among {q} l some weight unknown = omega (arith, weight, unknown, known_nonzero q some (length l) (at l))

pub overflow_sub-result : goal.overflow_sub-result
overflow_sub-result c =
    let t = c.args.frame.now.tables.now in
    omega (arith, among _ (positive t.setting t.ready.sound) c.weight.ensures c.unknown_symbols.ensures)

pub returns : goal.returns
returns c =
    let t = c.args.frame.now.tables.now in
    let p : Setting = t.setting in
    let count = c.args.frame.now.blocks * p.n in
    let left = c.args.residual.now in
    omega (
      arith,
      c.weight.ensures ∙ front_weight count left c.requires,
      c.unknown_symbols.ensures ∙ front_count (is_unknown p.q) count left c.requires,
      known_nonzero p.q (positive p t.ready.sound) count (at left),
    )
