-- `block::information::BlockValues::symbol` meets its contract: what its parts return makes up what is lacking.
use mathlib.Core.Path.{sym}
use Rattle.block.proofs.InformationRead.{is_lacking}
use Rattle.block.proofs.information.BlockValues.symbol.Goals as goal

pub returns : goal.returns
returns c =
    let p = c.requires in
    let a = c.args in
    let of = a.self.now in
    let t = of.tables.now in
    let same = sym t.same_field in
    is_lacking t.setting t.ready.sound of.values.now of.below a.i a.point _ _ _ _ _ a.information.now of.long p.3
    c.falling-sum.ensures (rw same at c.negate-ending.ensures)
    c.times_g-known.ensures (rw same at c.subtract-lack.ensures) (rw same at c.add.ensures)
