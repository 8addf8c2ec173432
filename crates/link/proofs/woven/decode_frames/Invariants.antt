-- `link::woven::decode_frames`: the frames before f were decoded.
use mathlib.Core.Path.{◌≡◌}
use mathlib.Core.List.{map}
use lib.ListN.{length}
use Rattle.code.specs.parts.SettingNumbers.{parameters_of}
use Rattle.question.specs.Questions.{most_frames}
use Rattle.question.specs.Refusals.{answered}
use Rattle.link.specs.parts.WovenFrames.{FramesTo}
use Rattle.link.proofs.woven.decode_frames.Given as goal

abbrev pub invariant-loop-f : goal.invariant-loop-f
invariant-loop-f l =
    (length l.outcomes ≡ most_frames)
    × FramesTo (parameters_of l.shape.frame.setting) l.shape.frame.blocks l.shape.frames l.f l.woven l.initial.message l.initial.transmission
    (map answered l.outcomes) l.message l.transmission
