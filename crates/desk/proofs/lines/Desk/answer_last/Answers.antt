-- `desk::lines::Desk::answer_last`: an empty line is none.
use native.Mathlib.Omega.{arith}
use borrow.Author.Rules.{rules}
use borrow.Author.Tests.{tests}
use Rattle.desk.specs.declared.lines.TheConstants.{LINE}
use Rattle.desk.proofs.Texts.{last_none, last_answered}
use Rattle.desk.proofs.lines.Desk.answer_last.Goals as goal

pub returns-then-not-is_empty : goal.returns-then-not-is_empty
returns-then-not-is_empty g c = λ begun K. last_answered LINE (omega arith) begun _ _ _ K (search (rules, tests)) c.requires.empty c.answer.ensures.written

pub returns-else-not-is_empty : goal.returns-else-not-is_empty
returns-else-not-is_empty g c = λ begun K. last_none LINE (omega arith) begun _ _ K (search (rules, tests)) c.requires.empty
