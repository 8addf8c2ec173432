-- `question::woven_questions` asks 1, 14, 15, then 2 and 3 of one frame; 14 got "yes", so the frames are few enough.
use mathlib.Core.Path.{◌∙◌}
use native.Mathlib.Omega.{arith}
use Rattle.std.proofs.Common.{rules}
use Rattle.question.proofs.Shapes.{after_count}
use Rattle.question.proofs.woven_questions.Goals as goal

pub invariant_of-result-clause-few : goal.invariant_of-result-clause-few
invariant_of-result-clause-few c = omega (arith, c.if-frames.false)

pub returns-in_err-frame-clause-answer : goal.returns-in_err-frame-clause-answer
returns-in_err-frame-clause-answer c =
    let a = c.args in
    let e =
    c.in_err-frame.ensures.answer
    ∙ after_count c.in_ok-setting.setting a.number a.frames a.long c.in_ok-setting.ensures
    c.if-frames-lt2.false c.if-frames.false c.if-long-frames-ne0.false in
    search rules
