-- `link::woven::decode_frames`: the frames before f were decoded.
use mathlib.Core.Path.{◌≡◌, ◌∙◌}
use mathlib.Core.List.{map}
use Prim.Native.Nat.{ℕ, ◌+◌, ◌*◌, ◌≤◌, ◌<◌}
use native.Mathlib.Omega.{arith}
use lib.ListN.{length, length-set}
use Rattle.std.proofs.lemmas.List.{map-set, length-map}
use Rattle.area.proofs.Parts.{parts_apart, part_length}
use Rattle.code.specs.parts.SettingNumbers.{parameters_of}
use Rattle.question.specs.Refusals.{answered}
use Rattle.link.proofs.WovenFrames.{frames_more}
use Rattle.link.proofs.woven.decode_frames.Goals as goal

-- Part f of an area that was lent with room for every frame's part lies within it.
part_in : {size frames f lent now : ℕ} (part : ℕ) → part ≡ size → f < frames → frames * size ≤ lent → now ≡ lent → f * part + part ≤ now
part_in {size} {frames} {f} {lent} part e l room same =
    let all : frames * part ≤ lent = rw e room in
    omega (arith, parts_apart part frames f l, all, same)

pub slice_bounds-decode_frame-end : goal.slice_bounds-decode_frame-end
slice_bounds-decode_frame-end c =
    part_in c.message_length-short.result c.message_length-short.ensures c.loop-f-test.true c.requires.1 c.loop-f.auto.message

pub slice_bounds-decode_frame-end-in-loop-f : goal.slice_bounds-decode_frame-end-in-loop-f
slice_bounds-decode_frame-end-in-loop-f c =
    part_in c.transmission_length-long.result c.transmission_length-long.ensures c.loop-f-test.true c.requires.2 c.loop-f.auto.transmission

pub loop-f-preserved : goal.loop-f-preserved
loop-f-preserved c =
    let a = c.args in
    let s = a.shape.frame in
    let l = c.loop-f in
    let short = c.message_length-short in
    let long = c.transmission_length-long in
    let message_part = part_in short.result short.ensures c.loop-f-test.true c.requires.1 l.auto.message in
    let transmission_part = part_in long.result long.ensures c.loop-f-test.true c.requires.2 l.auto.transmission in
    let decoded = c.decode_frame in
    let few : l.f < length (map answered l.outcomes) = omega (arith, c.loop-f-test.true, a.shape.few, length-map l.outcomes answered, l.invariant.0) in (
      length-set l.outcomes l.f decoded.result ∙ l.invariant.0,
      rw (map-set answered l.outcomes l.f decoded.result)
          (frames_more (parameters_of s.setting) s.blocks a.shape.frames a.woven.now a.message.now a.transmission.now short.result long.result l.f
          (map answered l.outcomes) l.message l.transmission decoded.new.message decoded.new.transmission (answered decoded.result) short.ensures
          long.ensures few message_part (decoded.auto.message ∙ part_length short.result (l.f * short.result) l.message message_part) transmission_part
          (decoded.auto.transmission ∙ part_length long.result (l.f * long.result) l.transmission transmission_part) l.invariant.1 decoded.ensures),
    )
