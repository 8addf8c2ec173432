-- `block::unknown::times_factor`: a series less its multiple, moved up by one place.
use Rattle.block.proofs.Factors.{factored_once}
use Rattle.block.proofs.unknown.times_factor.Goals as goal

pub returns : goal.returns
returns c = factored_once _ _ _ _ c.subtract_multiple.ensures
