-- `Field::negate` meets its contract: the rest to 5, else the number itself.
use Rattle.field.proofs.Operations.{negative_same, negative_of_zero, negative_modulo}
use Rattle.field.proofs.Field.negate.Goals as goal

pub returns-then-self-ne5 : goal.returns-then-self-ne5
returns-then-self-ne5 c = negative_same _ _ c.args.self.now.good c.requires c.if-self-ne5.true

pub returns-then-a-eq0 : goal.returns-then-a-eq0
returns-then-a-eq0 c = negative_of_zero _ _ c.args.self.now.good c.requires c.if-self-ne5.false c.if-a-eq0.true

pub returns-else-a-eq0 : goal.returns-else-a-eq0
returns-else-a-eq0 c = negative_modulo _ _ c.args.self.now.good c.requires c.if-self-ne5.false c.if-a-eq0.false
