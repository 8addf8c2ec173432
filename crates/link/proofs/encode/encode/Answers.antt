-- `link::encode::encode`: the message's shape was found.
use mathlib.Core.Path.{◌∙◌}
use native.Mathlib.Omega.{arith}
use lib.ListN.{length}
use lib.Seq.{length-take-le}
use Rattle.question.proofs.Shapes.{encoding_known}
use Rattle.link.proofs.encode.encode.Goals as goal

pub encode_frame-requires : goal.encode_frame-requires
encode_frame-requires c =
    let a = c.args in
    let asked = c.in_ok-shape.ensures in
    let long = c.transmission_length-long.ensures in
    let known = encoding_known a.message.now (length a.transmission.now) asked.shape asked.answer in
    (known.message_of, length-take-le _ _ (omega (arith, long, known.room)) ∙ long)
