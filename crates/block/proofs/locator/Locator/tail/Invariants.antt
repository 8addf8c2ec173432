-- `block::locator::Locator::tail` meets its contract. The loop's invariant: the sum so far is that of a terms.
use Rattle.field.specs.Fields.{ops_of}
use Rattle.field.specs.parts.Operations.{Is}
use Rattle.field.specs.parts.Sequences.{at}
use Rattle.block.specs.parts.Locator.{tail}
use Rattle.block.proofs.locator.Locator.tail.Given as goal

abbrev pub invariant-loop-a : goal.invariant-loop-a
invariant-loop-a l = Is l.field.q l.sum (tail (ops_of l.field.q) l.a (at l.self.coefficients) (at l.series) l.j)
