-- `line::writing::write_refusal`: the number, then the place.
use mathlib.Core.Path.{refl}
use native.Mathlib.Omega.{arith}
use Rattle.question.specs.Refusals.{number_of, place_of}
use Rattle.line.proofs.Placed.{placed_none, shown_whole, shown_none, number_long, refusal_long}
use Rattle.line.proofs.writing.write_refusal.Goals as goal

pub returns-then-output-lt6 : goal.returns-then-output-lt6
returns-then-output-lt6 c = shown_none _ _ (omega (arith, refusal_long (number_of c.args.refusal) (place_of c.args.refusal)))

pub returns : goal.returns
returns c =
    let number = rw (c.from.ensures, c.number.ensures) at c.put_number.ensures in
    let place = rw c.place.ensures at c.put_number-2.ensures in
    shown_whole _ _ _ 6 (refusal_long _ _) (place.behind (number_long _) (number.behind refl (placed_none _)))
