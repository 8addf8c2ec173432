-- `field::value` meets its contract, by recursion over the coefficients. The measure is their number.
use lib.ListN.{length}
use Rattle.field.proofs.Field.+value.Given as goal

-- The number of coefficients.
abbrev pub decreases-value : goal.decreases-value
decreases-value l = length l.c.now
