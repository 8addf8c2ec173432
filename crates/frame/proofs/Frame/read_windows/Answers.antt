-- `frame::Frame::read_windows`: the windows before j were read.
use mathlib.Core.Path.{◌≡◌, refl, subst}
use mathlib.Core.Bool.{Bool}
use mathlib.Core.List.{List}
use Prim.Native.Nat.{ℕ, ◌+◌}
use native.Mathlib.Omega.{arith}
use Rattle.code.specs.declared.Setting.{Setting}
use Rattle.code.specs.parts.Sound.{Sound}
use Rattle.frame.specs.parts.Frame.{Settled, Revised, Advanced, advanced, stopped, Turned}
use Rattle.frame.proofs.Settled.{settled_revised}
use Rattle.frame.proofs.Advance.{advance_more, stopped_none}
use Rattle.frame.proofs.Frame.read_windows.Goals as goal

-- Blocks of the window are guessed, and then its first block is made certain.
turned : {p : Setting} {T unknown : ℕ} {reception : List ℕ} {j : ℕ} {message residual guess rest message' residual' : List ℕ} {r : Bool}
    → Sound p → Settled p T unknown reception j message residual → Revised p T unknown j message residual guess rest
    → Turned p T unknown j guess rest message' residual' r → Advanced p T unknown reception (j + 1) message' residual' r
turned {p} {T} {unknown} {reception} {j} {message} {residual} S P N turn =
    turn.advances reception (settled_revised p S T unknown reception j message residual P j _ _ (omega arith) N)

pub returns-in_err-first : goal.returns-in_err-first
returns-in_err-first c =
    let turn = turned c.args.self.now.tables.now.ready.sound c.loop-j.invariant c.guess_window.ensures c.in_err-first.ensures in
    rw c.from_residual.ensures (stopped (stopped_none turn refl))

pub loop-j-preserved : goal.loop-j-preserved
loop-j-preserved c =
    let turn = turned c.args.self.now.tables.now.ready.sound c.loop-j.invariant c.guess_window.ensures c.in_ok-first.ensures in
    advance_more turn refl

pub returns : goal.returns
returns c =
    let a = c.args in
    let done : c.loop-j.j ≡ a.self.now.blocks = omega arith in
    advanced (subst (λ (t : ℕ). Settled a.self.now.tables.now.setting a.self.now.blocks a.self.now.unknown a.residual.now t c.loop-j.message c.loop-j.residual) done
    c.loop-j.invariant)
