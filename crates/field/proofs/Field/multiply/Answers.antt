-- `Field::multiply` meets its contract: the table's entry.
use Rattle.field.proofs.Operations.{product_listed}
use Rattle.field.proofs.Field.multiply.Goals as goal

pub returns : goal.returns
returns c = let f = c.args.self.now in product_listed _ _ _ f.good c.requires.0 c.requires.1 _ f.table
