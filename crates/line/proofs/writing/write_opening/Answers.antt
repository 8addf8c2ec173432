-- `line::writing::write_opening`: two numbers, and the head behind them.
use mathlib.Core.Path.{refl}
use Rattle.line.proofs.Placed.{placed_none, number_long, refusal_long}
use Rattle.line.proofs.writing.write_opening.Goals as goal

pub returns : goal.returns
returns c =
    let count = rw c.from.ensures at c.put_number-2.ensures in
    let zeros = c.put_number.ensures.behind refl (placed_none _) in
    c.put_head.ensures.behind (refusal_long 0 _) (count.behind (number_long 0) zeros)
