-- `line::decode_line`: the symbols are read into the front of the reception, and decoded there.
use mathlib.Core.Path.{ap, ◌∙◌}
use Rattle.question.specs.Refusals.{answered}
use Rattle.line.specs.Heads.{Head, head_length}
use Rattle.line.specs.Answering.{line_areas}
use Rattle.line.proofs.Frames.{frame_left}
use Rattle.line.proofs.decode_line.Goals as goal

pub returns : goal.returns
returns c =
    let a = c.args in
    frame_left a.line.now c.from-number.result c.length-head.result c.read_digits.new.area
    (line_areas a.reception.now a.message.now a.transmission.now) (answered c.decode.result) _ _
    (c.from-number.ensures ∙ ap (λ (h : Head). h.setting) c.requires.0.head) (c.length-head.ensures ∙ ap (λ (h : Head). head_length h.form) c.requires.0.head)
    c.read_digits.ensures c.decode.ensures
