-- `frame::window::Window::find_level`: once the levels from l on have failed, every near sequence is near at level l - 1.
use mathlib.Core.Path.{◌≡◌, subst}
use Prim.Native.Nat.{suc, ◌-◌}
use native.Mathlib.Omega.{arith}
use Rattle.frame.proofs.LevelsFailed.{LevelsFailed, levels_failed_start, levels_failed_next, levels_failed_served, levels_failed_none}
use Rattle.frame.proofs.window.Window.find_level.Goals as goal

pub loop-l-init : goal.loop-l-init
loop-l-init c = levels_failed_start c.args.self.now.tables.now.setting c.args.self.now.symbols.now

pub returns-in-Some : goal.returns-in-Some
returns-in-Some c =
    let a = c.args in
    let l = c.loop-l in
    let back : l.l ≡ suc (l.l - 1) = omega arith in
    levels_failed_served a.self.now.tables.now.setting a.self.now.tables.now.ready.sound a.self.now.symbols.now (l.l - 1) (omega arith)
    c.in-Some.ensures (subst (LevelsFailed a.self.now.tables.now.setting a.self.now.symbols.now) back l.invariant)

pub loop-l-preserved : goal.loop-l-preserved
loop-l-preserved c =
    let a = c.args in
    let l = c.loop-l in
    let back : l.l ≡ suc (l.l - 1) = omega arith in
    levels_failed_next a.self.now.tables.now.setting a.self.now.tables.now.ready.sound a.self.now.symbols.now (l.l - 1)
    c.in_default.ensures (subst (LevelsFailed a.self.now.tables.now.setting a.self.now.symbols.now) back l.invariant)

pub returns : goal.returns
returns c =
    let a = c.args in
    let none : c.loop-l.l ≡ 0 = omega arith in
    levels_failed_none a.self.now.tables.now.setting a.self.now.symbols.now (subst (LevelsFailed a.self.now.tables.now.setting a.self.now.symbols.now) none c.loop-l.invariant)
