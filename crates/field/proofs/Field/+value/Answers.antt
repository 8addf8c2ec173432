-- `Field::value` meets its contract, by recursion over the coefficients.
use Prim.Native.Nat.{◌≤◌}
use native.Mathlib.Omega.{arith}
use lib.ListN.{length}
use Rattle.field.proofs.Symbols.{symbols_part}
use Rattle.field.proofs.PolynomialValue.{rest_shorter, rest_lent, value_of_none, value_of_more, value_of_all}
use Rattle.field.proofs.Field.+value.Goals as goal

-- No coefficients.
pub returns-then-c-eq0 : goal.returns-then-c-eq0
returns-then-c-eq0 t c =
    let a = c.args in
    let none : length a.c.now ≤ 0 = omega (arith, c.if-c-eq0.true) in
    value_of_all _ _ a.c.now (length a.c.now) 0 none (value_of_none _ a.x a.c.now a.self.now.good)

-- The first coefficient, and the rest.
pub value-rest-requires : goal.value-rest-requires
value-rest-requires t c =
    let p = c.requires in
    let l = c.args.c.now in (
      rest_shorter l 1 t c.decreases (omega arith) (omega arith),
      (symbols_part _ 1 (length l) l p.0, p.1),
    )

pub returns-then-c-lt-PART : goal.returns-then-c-lt-PART
returns-then-c-lt-PART t c =
    let a = c.args in
    let rest = rest_lent _ a.x a.c.now 1 _ c.value-rest.ensures in
    value_of_more _ _ a.c.now 1 _ _ (omega arith) (omega arith) rest.same c.add_product.ensures

-- The first seven, and the rest.
pub value-rest-requires-2 : goal.value-rest-requires-2
value-rest-requires-2 t c =
    let p = c.requires in
    let l = c.args.c.now in (
      rest_shorter l 7 t c.decreases (omega arith) c.if-c-lt-PART.false,
      (symbols_part _ 7 (length l) l p.0, p.1),
    )
