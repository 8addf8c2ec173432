-- `block::information::BlockValues::falling` meets its contract. The loop's invariant: the sum so far is that of the values before the index.
use mathlib.Core.Path.{sym}
use Rattle.block.proofs.InformationRead.{falling_none, falling_more}
use Rattle.block.proofs.information.BlockValues.falling.Goals as goal

pub loop-value-init : goal.loop-value-init
loop-value-init c = falling_none _ c.args.self.now.tables.now.ready.sound.good _ _

pub loop-value-preserved : goal.loop-value-preserved
loop-value-preserved c =
    let l = c.loop-value in
    let t = c.args.self.now.tables.now in
    let same = sym t.same_field in
    falling_more _ t.ready.sound.good _ _ l.value-index l.sum _ _ l.invariant (rw same at c.add-more.ensures) (rw same at c.multiply-sum.ensures)
