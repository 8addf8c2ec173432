-- `line::writing::write_success`: the opening, then the message.
use mathlib.Core.Path.{ap}
use Prim.Native.Nat.{ℕ, ◌+◌}
use native.Mathlib.Omega.{arith}
use Rattle.line.specs.parts.Frames.{head_of}
use Rattle.line.proofs.Placed.{shown_success, shown_none, success_long}
use Rattle.line.proofs.writing.write_success.Goals as goal

pub returns-then-output-end : goal.returns-then-output-end
returns-then-output-end c = let a = c.args in shown_none _ _ (omega (arith, success_long a.altered (head_of a.shape) a.message.now))

pub returns : goal.returns
returns c =
    let a = c.args in
    shown_success a.altered (head_of a.shape) a.message.now a.output.now _ _ (ap (λ (t : ℕ). 6 + t) c.length-start.ensures) c.if-output-end.false
    c.write_symbols.ensures c.write_opening.ensures
