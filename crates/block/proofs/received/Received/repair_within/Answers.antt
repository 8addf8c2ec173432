-- `block::received::Received::repair_within` meets its contract: what its parts promise gives the answers.
use mathlib.Core.Path.{ap, ◌∙◌}
use Prim.Native.Nat.{ℕ}
use native.Mathlib.Omega.{arith}
use lib.ListN.{replicate}
use Rattle.block.proofs.Factors.{length_places}
use Rattle.block.proofs.Step.{step_long, step_clean, step_marked}
use Rattle.block.proofs.received.Received.repair_within.Goals as goal

pub returns-then-distance-self : goal.returns-then-distance-self
returns-then-distance-self c =
    let r = c.args.self.now in
    step_long r.tables.now.ready.sound (omega (arith, r.tables.now.narrow.block)) r.level r.whole r.long r.filled c.begin-locator.ensures
    (omega (arith, r.counted))
    (c.fill.ensures.after (λ y e. e) ∙ ap (λ (t : ℕ). replicate t 0) c.requires.1)

pub returns-then-degree-eq0 : goal.returns-then-degree-eq0
returns-then-degree-eq0 c =
    let r = c.args.self.now in
    step_clean r.tables.now.ready.sound (omega (arith, r.tables.now.narrow.block)) r.level r.whole r.long r.filled c.begin-locator.ensures
    c.read_candidate-information.ensures c.if-degree-eq0.true
    (c.fill-then-degree-eq0.ensures.after (λ y e. e) ∙ ap (λ (t : ℕ). replicate t 0) c.requires.1)

pub mark-requires : goal.mark-requires
mark-requires c =
    let r = c.args.self.now in
    (r.whole, c.requires.1, r.counted ∙ length_places _ _, omega (arith, r.few, c.requires.0))

pub returns : goal.returns
returns c =
    let r = c.args.self.now in
    rw c.then_some.ensures
    (step_marked r.tables.now.ready.sound (omega (arith, r.tables.now.narrow.block)) r.level r.whole r.long r.filled c.begin-locator.ensures
    c.read_candidate-information.ensures c.requires.0 c.mark.result c.mark.ensures)
