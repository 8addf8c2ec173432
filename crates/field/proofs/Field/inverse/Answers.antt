-- `Field::inverse` meets its contract: the entry of the table's row of inverses.
use Rattle.field.proofs.Operations.{inverse_listed}
use Rattle.field.proofs.Field.inverse.Goals as goal

pub returns : goal.returns
returns c = let f = c.args.self.now in inverse_listed _ _ f.good c.requires _ f.table
