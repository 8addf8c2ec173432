-- `block::received::Received::include_unknown`: without unknown symbols the locator stays.
use mathlib.Core.Path.{sym, ◌∙◌}
use Rattle.block.proofs.Factors.{included_none}
use Rattle.block.proofs.received.Received.include_unknown.Goals as goal

pub returns-then-self-eq0 : goal.returns-then-self-eq0
returns-then-self-eq0 c = included_none _ _ (sym c.args.self.now.counted ∙ c.if-self-eq0.true) c.requires.0
