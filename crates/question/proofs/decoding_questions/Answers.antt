-- `question::decoding_questions` asks 1 to 3, then 4, 5 and 6.
use mathlib.Core.Path.{◌∙◌}
use Rattle.std.proofs.Common.{rules}
use Rattle.question.specs.Questions.{area_questions}
use Rattle.question.proofs.Shapes.{after_frame}
use Rattle.question.proofs.decoding_questions.Goals as goal

pub returns-in_err-area_questions-clause-answer : goal.returns-in_err-area_questions-clause-answer
returns-in_err-area_questions-clause-answer c =
    let a = c.args in
    let e =
    c.in_err-area_questions.ensures
    ∙ after_frame (λ p T. area_questions p T a.reception.now a.rooms.message a.rooms.transmission) c.in_ok-shape.ensures.shape c.in_ok-shape.ensures.answer in
    search rules
