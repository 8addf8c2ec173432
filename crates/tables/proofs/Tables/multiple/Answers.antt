-- `Tables::multiple`: row r of G_0, .., G_m is that part of the rows.
use mathlib.Core.Path.{sym}
use native.Mathlib.Omega.{arith}
use Rattle.tables.proofs.RowsAdded.{window_row_room, window_row_symbols}
use Rattle.tables.proofs.Tables.multiple.Goals as goal

pub part-requires : goal.part-requires
part-requires c =
    let t = c.args.self.now in
    rw c.window_length-length.ensures (window_row_room t.setting t.ready.sound t.rows t.ready.rows c.args.r c.requires.0)

pub invariant_of-result : goal.invariant_of-result
invariant_of-result c =
    let t = c.args.self.now in
    record {
      below = omega (arith, c.requires.1, t.same_field);
      symbols = rw (c.part.ensures.part, c.window_length-length.ensures, sym t.same_field)
          (window_row_symbols t.setting t.ready.sound t.rows t.ready.rows c.args.r c.requires.0);
    }
