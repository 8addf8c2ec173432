-- `link::encode::Sending::send`: the blocks before block i were sent.
use mathlib.Core.Path.{◌≡◌, ap, subst, ◌∙◌}
use Prim.Native.Nat.{ℕ, ◌*◌}
use native.Mathlib.Omega.{arith}
use lib.ListN.{replicate}
use Rattle.code.specs.declared.Setting.{Setting}
use Rattle.link.specs.parts.Sending.{SentTo}
use Rattle.link.proofs.Sending.{sent_none, sent_all}
use Rattle.link.proofs.encode.Sending.send.Goals as goal

pub loop-i-init : goal.loop-i-init
loop-i-init c =
    let a = c.args in
    let p : Setting = a.self.now.tables.now.setting in
    let cleared = c.fill in
    let none : 0 ≡ 0 * p.k = omega arith in
    subst (λ (t : ℕ). SentTo p a.self.now.blocks a.self.now.message.now t cleared.new.self) none
    (sent_none p a.self.now.tables.now.ready.sound a.self.now.blocks a.self.now.message.now a.self.now.fits cleared.new.self
    (cleared.ensures.after (λ y e. e) ∙ ap (λ (t : ℕ). replicate t 0) c.requires))

pub returns : goal.returns
returns c =
    let a = c.args in
    let p : Setting = a.self.now.tables.now.setting in
    let all : c.loop-i.i ≡ a.self.now.blocks = omega arith in
    sent_all p a.self.now.tables.now.ready.sound a.self.now.blocks a.self.now.message.now a.self.now.fits c.loop-i.area
    (subst (λ (t : ℕ). SentTo p a.self.now.blocks a.self.now.message.now (t * p.k) c.loop-i.area) all c.loop-i.invariant)
