-- `Field::value_from_rest` meets its contract. The loop's invariant: the sum is the value of the coefficients from i on.
use native.Mathlib.Omega.{arith}
use Rattle.field.proofs.PolynomialValue.{value_of_more}
use Rattle.field.proofs.Field.value_from_rest.Goals as goal

pub loop-i-preserved : goal.loop-i-preserved
loop-i-preserved c =
    let l = c.loop-i in
    value_of_more _ _ c.args.c.now l.i _ _ (omega arith) (omega arith) l.invariant.same c.add_product-sum.ensures
