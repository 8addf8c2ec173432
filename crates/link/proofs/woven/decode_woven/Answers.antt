-- `link::woven::decode_woven`: what question 7 says of each frame.
use mathlib.Core.Path.{◌∙◌}
use native.Mathlib.Nat.{mul_comm}
use lib.ListN.{length}
use Rattle.question.proofs.Shapes.{asked_yes, woven_decoding_known}
use Rattle.link.proofs.WovenFrames.{woven_decoded}
use Rattle.link.proofs.woven.decode_woven.Goals as goal

pub decode_frames-requires : goal.decode_frames-requires
decode_frames-requires c =
    let a = c.args in
    let asked = c.in_ok-shape.ensures in
    let known = woven_decoding_known a.reception.now (length a.message.now) (length a.transmission.now) asked.shape asked.answer in
    (known.0 ∙ mul_comm _ _, known.1, known.2)

pub returns : goal.returns
returns c =
    let a = c.args in
    let asked = c.in_ok-shape.ensures in
    woven_decoded a.number a.frames a.reception.now a.message.now a.transmission.now (asked_yes asked.answer) asked.shape c.decode_frames.ensures
