-- `frame::Frame::read`: the windows in turn, then the last comparison.
use mathlib.Core.Path.{◌≡◌, refl, ap, subst, ◌∙◌}
use mathlib.Core.Bool.{Bool, true, false}
use Prim.Native.Nat.{ℕ}
use lib.ListN.{replicate}
use Rattle.std.specs.Prelude.{is_some}
use Rattle.std.specs.Bool.{then_some}
use Rattle.code.specs.declared.Setting.{Setting}
use Rattle.frame.specs.parts.Frame.{FrameRead, none}
use Rattle.frame.proofs.Settled.{settled_start}
use Rattle.frame.proofs.Advance.{advance_more, stopped_none}
use Rattle.frame.proofs.Ends.{frame_compared}
use Rattle.frame.proofs.Frame.read.Goals as goal

pub read_windows-requires : goal.read_windows-requires
read_windows-requires c =
    let a = c.args in
    let t = a.self.now.tables.now in
    settled_start t.setting t.ready.sound a.self.now.blocks a.self.now.unknown a.residual.now c.requires.2 c.requires.1 _
    (c.fill.ensures.after (λ y e. e) ∙ ap (λ (t : ℕ). replicate t 0) c.requires.0)

pub returns-in_err-read_windows : goal.returns-in_err-read_windows
returns-in_err-read_windows c = rw c.from_residual.ensures (none (stopped_none c.in_err-read_windows.ensures refl))

-- The last comparison's answer, as the option that it makes.
decided : (b : Bool) → b ≡ is_some (then_some b (tt {0}))
decided true = refl
decided false = refl

pub returns : goal.returns
returns c =
    let a = c.args in
    let p : Setting = a.self.now.tables.now.setting in
    let read = frame_compared a.self.now.tables.now.ready.sound c.requires.1 a.self.now.some (advance_more c.in_ok-read_windows.ensures refl) c.compare_windows.ensures in
    rw c.then_some.ensures
    (subst (FrameRead p a.self.now.blocks a.residual.now c.read_windows.new.message c.read_windows.new.residual) (decided c.compare_windows.result) read)
