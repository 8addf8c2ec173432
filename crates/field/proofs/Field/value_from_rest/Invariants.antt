-- `Field::value_from_rest` meets its contract. The loop's invariant: the sum is the value of the coefficients from i on.
use lib.ListN.{drop}
use Rattle.algebra.specs.Polynomial as polynomial
use Rattle.field.specs.Fields.{ops_of}
use Rattle.field.specs.parts.Operations.{Is}
use Rattle.field.proofs.Field.value_from_rest.Given as goal

abbrev pub invariant-loop-i : goal.invariant-loop-i
invariant-loop-i l = Is l.self.q l.sum (polynomial.value (ops_of l.self.q) (drop l.i l.c) l.x)
