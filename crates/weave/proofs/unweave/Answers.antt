-- `weave::unweave`: refused by the first "no", or the frames one after another in front of what the area held.
use mathlib.Core.Path.{◌∙◌}
use native.Mathlib.Nat.{mul_comm}
use Rattle.weave.proofs.Weaving.{movable, laid_moved, unwoven_columns}
use Rattle.weave.proofs.unweave.Goals as goal

pub transpose-requires : goal.transpose-requires
transpose-requires c =
    let found = c.in_ok-shape in
    let known = movable found.ensures.shape found.ensures.answer c.transmission_length-size.ensures in
    (known.whole ∙ mul_comm _ _, known.front ∙ mul_comm _ _)

pub returns : goal.returns
returns c =
    let found = c.in_ok-shape in
    let known = movable found.ensures.shape found.ensures.answer c.transmission_length-size.ensures in
    laid_moved found.ensures.answer (unwoven_columns known c.transpose.ensures)
