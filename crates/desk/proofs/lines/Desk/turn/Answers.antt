-- `desk::lines::Desk::turn`: nothing was read, the input has ended, or a text came.
use borrow.Author.Rules.{rules}
use native.Mathlib.Omega.{arith}
use Rattle.desk.proofs.Texts.{came_turn}
use Rattle.desk.proofs.lines.Desk.turn.Goals as goal

pub returns-in-Some : goal.returns-in-Some
returns-in-Some g c = came_turn _ _ _ _ _ (search rules) (λ z. omega (arith, z, c.in-Some.len_at_least)) c.answer_lines.ensures
