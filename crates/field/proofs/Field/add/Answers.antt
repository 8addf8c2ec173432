-- `Field::add` meets its contract: modulo 5 by at most one subtraction, else exclusive or.
use Rattle.field.proofs.Operations.{sum_xor, sum_modulo, sum_modulo_less}
use Rattle.field.proofs.Field.add.Goals as goal

pub returns-then-self-ne5 : goal.returns-then-self-ne5
returns-then-self-ne5 c = let p = c.requires in sum_xor _ _ _ c.args.self.now.good p.0 p.1 c.if-self-ne5.true

pub returns-then-sum-lt5 : goal.returns-then-sum-lt5
returns-then-sum-lt5 c = let p = c.requires in sum_modulo _ _ _ c.args.self.now.good p.0 p.1 c.if-self-ne5.false c.if-sum-lt5.true

pub returns-else-sum-lt5 : goal.returns-else-sum-lt5
returns-else-sum-lt5 c = let p = c.requires in sum_modulo_less _ _ _ c.args.self.now.good p.0 p.1 c.if-self-ne5.false c.if-sum-lt5.false
