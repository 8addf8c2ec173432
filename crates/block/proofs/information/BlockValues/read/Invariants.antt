-- `block::information::BlockValues::read` meets its contract. The loop's invariant is the promise for the symbols from i on, and the point is (1/α)^(k - i).
use Prim.Native.Nat.{◌-◌}
use Rattle.algebra.specs.Sum.{power}
use Rattle.field.specs.Fields.{ops_of, alpha}
use Rattle.field.specs.parts.Operations.{Is}
use Rattle.block.specs.parts.Information.{BlockRead}
use Rattle.block.proofs.information.BlockValues.read.Given as goal

abbrev pub invariant-loop-i : goal.invariant-loop-i
invariant-loop-i l =
    let p = l.self.tables.now.setting in
    Is p.q l.point (power (ops_of p.q) ((ops_of p.q).inv alpha) (p.k - l.i)) × BlockRead p (p.k - l.i) l.self.values.now l.information
