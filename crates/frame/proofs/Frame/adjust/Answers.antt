-- `frame::Frame::adjust`: one symbol of the message, and one window of the residual.
use mathlib.Core.Path.{sym, ap, ◌∙◌}
use native.Mathlib.Omega.{arith}
use Rattle.field.specs.Fields.{ops_of}
use Rattle.code.proofs.CodeBelow.{laws}
use Rattle.frame.proofs.Guesses.{adjusted}
use Rattle.frame.proofs.Frame.adjust.Goals as goal

pub returns : goal.returns
returns c =
    let a = c.args in
    let t = a.self.now.tables.now in
    let p = t.setting in
    let less = c.negate-less in
    adjusted p t.ready.sound a.self.now.blocks a.self.now.unknown a.i a.r a.v a.message.now a.residual.now c.requires.3 c.requires.0 c.requires.1 c.requires.2
    c.add-sum.result (rw (sym t.same_field) at c.add-sum.ensures.same)
    less.result (omega (arith, t.same_field, less.ensures.below))
    (ap ((ops_of p.q).add a.v) (rw (sym t.same_field) at less.ensures.same) ∙ (laws p t.ready.sound).plus_neg a.v c.requires.2)
    _ c.window_length.ensures c.add_rows.new.window c.add_rows.ensures
