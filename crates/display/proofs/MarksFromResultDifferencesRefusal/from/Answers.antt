-- `display::Marks`, from an outcome: its answer, and what was found or zeros.
use mathlib.Core.Path.{◌≡◌, ap₂}
use Rattle.std.specs.Prelude.{Result, Ok, Err}
use Rattle.std.specs.Result.{ResultUnwrapsOrElse}
use Rattle.std.proofs.Common.{rules}
use Rattle.question.specs.declared.answer.Answer.{Answer}
use Rattle.question.specs.declared.refusal.Refusal.{Refusal}
use Rattle.question.specs.Refusals.{asked}
use Rattle.display.specs.declared.Marks.{Marks}
use Rattle.display.specs.declared.mark.Differences.{Differences}
use Rattle.display.specs.Marks.{marks_answer}
use Rattle.display.proofs.MarksFromResultDifferencesRefusal.from.Goals as goal

-- An answer and differences together.
abbrev marks : Answer → Differences → Marks
marks r d = record { answer = r; marks = d.marks; set = d.set }

of_outcome : (o : Result Differences Refusal) {r : Answer} {found : Differences} → r ≡ asked o
    → ResultUnwrapsOrElse o (λ d. (d.marks ≡ 0) × (d.set ≡ 0)) found → marks r found ≡ marks_answer o
of_outcome (Ok x) a f = ap₂ marks a f
of_outcome (Err x) a f = cc

pub returns : goal.returns
returns c =
    let answer : c.from-answer.result ≡ asked c.args.outcome = search rules in
    of_outcome c.args.outcome answer c.unwrap_or_default-found.ensures
