-- `link::decode::decode`: what question 7 says in front of what the areas held.
use mathlib.Core.Path.{◌≡◌, ◌∙◌}
use native.Mathlib.Omega.{arith}
use lib.ListN.{length, take}
use lib.Seq.{length-take-le}
use Rattle.question.proofs.Shapes.{decoding_known}
use Rattle.link.proofs.Decoding.{decoded_asked}
use Rattle.link.proofs.decode.decode.Goals as goal

pub decode_frame-requires : goal.decode_frame-requires
decode_frame-requires c =
    let a = c.args in
    let asked = c.in_ok-shape.ensures in
    let short = c.message_length-short in
    let long = c.transmission_length-long in
    let known = decoding_known a.reception.now (length a.message.now) (length a.transmission.now) asked.shape asked.answer in
    let front : length (take long.result a.transmission.now) ≡ long.result =
    length-take-le _ _ (omega (arith, long.ensures, known.has_transmission_room)) in (
      front,
      length-take-le _ _ (omega (arith, short.ensures, known.has_message_room)) ∙ short.ensures,
      front ∙ long.ensures,
    )

pub returns : goal.returns
returns c =
    let a = c.args in
    let asked = c.in_ok-shape.ensures in
    decoded_asked a.number a.reception.now a.message.now a.transmission.now asked.shape asked.answer c.message_length-short.ensures
    c.transmission_length-long.ensures c.decode_frame.ensures
