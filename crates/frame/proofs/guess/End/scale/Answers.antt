-- `frame::guess::End::scale`: the inverse of the rows' first symbol, or one.
use native.Mathlib.Omega.{arith}
use Rattle.field.proofs.Laws.{laws_of}
use Rattle.tables.proofs.Places.{first_place}
use Rattle.frame.proofs.guess.End.scale.Goals as goal

pub inverse-requires : goal.inverse-requires
inverse-requires c =
    let t = c.args.tables.now in
    omega (arith, t.same_field, (first_place t.setting t.ready.sound t.rows t.ready.rows).1)

pub returns-in-Last : goal.returns-in-Last
returns-in-Last c =
    let t = c.args.tables.now in
    (laws_of t.setting.q t.ready.sound.good).one_below
