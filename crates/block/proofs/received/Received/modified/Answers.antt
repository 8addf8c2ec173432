-- `block::received::Received::modified`: the series itself where no symbol is unknown, and else its product with the factors, moved down.
use mathlib.Core.Path.{sym, ◌∙◌}
use native.Mathlib.Omega.{arith}
use Rattle.block.proofs.Factors.{modified_none, modified_moved}
use Rattle.block.proofs.received.Received.modified.Goals as goal

pub returns-then-self-eq0 : goal.returns-then-self-eq0
returns-then-self-eq0 c = modified_none _ _ _ c.requires.1 (sym c.args.self.now.counted ∙ c.if-self-eq0.true) c.requires.0

pub returns : goal.returns
returns c =
    let s = c.args.self.now in
    let copied = c.copy_within.ensures.by_index in
    modified_moved _ _ _ c.requires.1 _ _ (omega (arith, s.counted)) (omega (arith, s.few, c.syndromes.ensures)) (omega (arith, s.tables.now.narrow.block))
    (rw (sym s.tables.now.same_field) at c.times_factors.ensures) copied.0 copied.1 copied.2
