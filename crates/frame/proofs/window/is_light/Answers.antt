-- `frame::window::is_light`: two for each symbol that is not zero, and one less for each unknown one.
use mathlib.Core.Path.{sym, ap}
use Prim.Native.Nat.{ℕ}
use native.Mathlib.Omega.{arith}
use lib.Dec.{ltb}
use lib.ListN.{length}
use borrow.Author.Tests.{lt-ltb}
use Rattle.algebra.proofs.Weights.{distance_le}
use Rattle.field.specs.parts.Sequences.{at}
use Rattle.code.specs.parts.Cost.{zero_cost}
use Rattle.code.proofs.Cost.{cost_zeros}
use Rattle.frame.proofs.window.is_light.Goals as goal

pub overflow_mul-most : goal.overflow_mul-most
overflow_mul-most c =
    let symbols = c.args.symbols.now in
    omega (arith, distance_le (length symbols) (at symbols) (λ _. 0) c.weight-most.ensures)

pub returns-then-most-bound : goal.returns-then-most-bound
returns-then-most-bound c =
    let a = c.args in
    let symbols = a.symbols.now in
    sym (lt-ltb (zero_cost a.q symbols) a.bound (omega (arith, c.if-most-bound.true, c.weight-most.ensures, cost_zeros a.q c.requires (length symbols) (at symbols))))

pub overflow_sub-result : goal.overflow_sub-result
overflow_sub-result c =
    let a = c.args in
    let symbols = a.symbols.now in
    omega (arith, c.weight-most.ensures, c.unknown_symbols.ensures, cost_zeros a.q c.requires (length symbols) (at symbols))

pub returns : goal.returns
returns c =
    let a = c.args in
    let symbols = a.symbols.now in
    ap (λ (t : ℕ). ltb t a.bound)
    (omega (arith, c.weight-most.ensures, c.unknown_symbols.ensures, cost_zeros a.q c.requires (length symbols) (at symbols)))
