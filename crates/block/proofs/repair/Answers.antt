-- `block::repair` meets its contract: too many unknown symbols, or a received block with its symbols.
use mathlib.Core.Path.{◌≡◌, sym, ap, ◌∙◌}
use Prim.Native.Nat.{ℕ}
use native.Mathlib.Omega.{arith}
use lib.ListN.{length, replicate, length-take}
use Rattle.block.specs.parts.Factors.{Filled}
use Rattle.block.proofs.Filled.{filled_part, filled_itself}
use Rattle.block.proofs.Factors.{length_places}
use Rattle.block.proofs.Step.{step_unknown}
use Rattle.block.proofs.repair.Goals.{then-unknown-eq0, else-unknown-eq0}
use Rattle.block.proofs.repair.Goals as goal

pub returns-then-distance-unknown : goal.returns-then-distance-unknown
returns-then-distance-unknown c =
    step_unknown _ (omega (arith, rw c.requires.0 at c.count-unknown.ensures, c.level_distance-distance.ensures, c.if-distance-unknown.true))
    (c.fill.ensures.after (λ y e. e) ∙ ap (λ (t : ℕ). replicate t 0) c.requires.2)

pub invariant_of-received : goal.invariant_of-received
invariant_of-received c =
    let t = c.args.tables.now in
    let count = c.count-unknown.ensures in
    let symbols : Filled t.setting.q c.args.block.now c.if-unknown-eq0.symbols.now × (length c.if-unknown-eq0.symbols.now ≡ t.setting.n) =
    elim c.if-unknown-eq0.branch [
      | then-unknown-eq0 w ↦
          rw w.symbols-is (filled_itself _ t.ready.sound.good _ (sym count ∙ w.if-unknown-eq0.true), c.requires.0)
      | else-unknown-eq0 w ↦
          rw w.symbols-is (
            filled_part _ t.ready.sound.good _ _ (omega arith) (rw (sym t.same_field) at w.fill-filled.ensures),
            length-take (length c.args.block.now) w.fill-filled.result ∙ omega (arith, c.requires.0, t.narrow.block),
          )
    ] in
    record {
      filled = symbols.0;
      long = symbols.1;
      whole = c.requires.0;
      counted = count ∙ sym (length_places _ _);
      few = omega (arith, c.if-distance-unknown.false, c.level_distance-distance.ensures);
      level = c.requires.1;
    }
