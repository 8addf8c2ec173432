-- `block::information::BlockValues::falling` meets its contract. The loop's invariant: the sum so far is that of the values before the index.
use Rattle.algebra.specs.parts.Values.{falling}
use Rattle.field.specs.Fields.{ops_of}
use Rattle.field.specs.parts.Operations.{Is}
use Rattle.field.specs.parts.Sequences.{at}
use Rattle.block.proofs.information.BlockValues.falling.Given as goal

abbrev pub invariant-loop-value : goal.invariant-loop-value
invariant-loop-value l = let q = l.self.tables.now.setting.q in Is q l.sum (falling (ops_of q) l.value-index (at l.self.values.now) l.y)
