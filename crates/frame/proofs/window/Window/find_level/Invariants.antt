-- `frame::window::Window::find_level`: once the levels from l on have failed, every near sequence is near at level l - 1.
use Rattle.frame.proofs.LevelsFailed.{LevelsFailed}
use Rattle.frame.proofs.window.Window.find_level.Given as goal

abbrev pub invariant-loop-l : goal.invariant-loop-l
invariant-loop-l l = LevelsFailed l.self.tables.now.setting l.self.symbols.now l.l
