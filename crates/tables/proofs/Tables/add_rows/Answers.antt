-- `Tables::add_rows`: the multiple that was added is row r of G_0, .., G_m.
use Rattle.tables.proofs.RowsAdded.{rows_added}
use Rattle.tables.proofs.Tables.add_rows.Goals as goal

pub returns : goal.returns
returns c =
    let t = c.args.self.now in
    let m = c.multiple.ensures in
    rows_added t.setting t.ready.sound t.rows t.ready.rows c.args.r c.requires.0 m.field m.factor m.row c.requires.2 c.add.ensures
