-- `question::woven_decoding_questions` asks what woven frames are asked, then 4, 5 and 6 with a share of the room.
use mathlib.Core.Path.{◌∙◌}
use Rattle.std.proofs.Common.{rules}
use Rattle.question.proofs.Shapes.{after_woven}
use Rattle.question.proofs.woven_decoding_questions.Goals as goal

pub returns-in_err-area_questions-clause-answer : goal.returns-in_err-area_questions-clause-answer
returns-in_err-area_questions-clause-answer c =
    let a = c.args in
    let e =
    rw (c.share.ensures.0, c.share.ensures.1) at c.in_err-area_questions.ensures
    ∙ after_woven a.reception.now a.rooms.message a.rooms.transmission c.in_ok-shape.ensures.shape c.in_ok-shape.ensures.answer in
    search rules

pub returns-clause-answer : goal.returns-clause-answer
returns-clause-answer c =
    let a = c.args in
    rw (c.share.ensures.0, c.share.ensures.1) at c.in_ok-area_questions.ensures
    ∙ after_woven a.reception.now a.rooms.message a.rooms.transmission c.in_ok-shape.ensures.shape c.in_ok-shape.ensures.answer
