-- `link::decode::transmit`: the transmission, restored or made anew.
use mathlib.Core.Path.{◌≡◌, sym, ap, subst, ◌∙◌}
use Prim.Native.Nat.{ℕ}
use lib.ListN.{length}
use Rattle.field.specs.Symbols.{Symbols}
use Rattle.code.specs.declared.Setting.{Setting}
use Rattle.code.specs.parts.SettingNumbers.{parameters_of}
use Rattle.code.specs.parts.Sound.{Sound}
use Rattle.weave.specs.parts.Columns.{symbols_of}
use Rattle.link.specs.parts.Restoring.{Restored}
use Rattle.link.proofs.Sending.{encoded_whole}
use Rattle.link.proofs.Decoding.{read_known, read_residual, read_restored, read_message, read_long}
use Rattle.link.proofs.decode.transmit.Goals as goal

pub restore-requires : goal.restore-requires
restore-requires c =
    let t = c.args.frame.now.tables.now in
    let e = c.requires.0 in
    let q : t.field.q ≡ (parameters_of c.args.shape.setting).q = sym t.same_field ∙ ap (λ (p : Setting). p.q) e in
    let none = c.if-frame-eq0.true in (
      c.requires.1,
      subst (λ (q : ℕ). Symbols q (symbols_of c.args.reception.now)) (sym q) (read_known c.requires.2 none),
      subst (λ (q : ℕ). Symbols q c.args.residual.now) (sym q) (read_residual (subst Sound e t.ready.sound) c.requires.2 none),
    )

pub returns-then-frame-eq0 : goal.returns-then-frame-eq0
returns-then-frame-eq0 c =
    let t = c.args.frame.now.tables.now in
    let e = c.requires.0 in
    let q : t.field.q ≡ (parameters_of c.args.shape.setting).q = sym t.same_field ∙ ap (λ (p : Setting). p.q) e in
    read_restored (subst Sound e t.ready.sound) c.requires.2 c.if-frame-eq0.true
    (subst (λ (q : ℕ). Restored q (length c.args.residual.now) (symbols_of c.args.reception.now) c.args.residual.now c.restore.new.residual) q c.restore.ensures)

pub returns-else-frame-eq0 : goal.returns-else-frame-eq0
returns-else-frame-eq0 c =
    let s = c.args.shape in
    encoded_whole s.setting s.blocks c.args.message.now c.args.residual.now c.from.ensures s.few (read_message c.requires.2) (read_long c.requires.2)
    c.encode.ensures
