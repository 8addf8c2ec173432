-- `line::writing::put_head`: the first digit, and T behind it.
use mathlib.Core.Path.{sym, ap}
use Prim.Native.Nat.{ℕ, ◌+◌}
use Rattle.line.proofs.Hex.{length_hex}
use Rattle.line.proofs.Placed.{behind_both}
use Rattle.line.proofs.writing.put_head.Goals as goal

pub returns : goal.returns
returns c =
    let digit = rw (c.from.ensures, c.from-2.ensures) at c.put_number.ensures in
    let blocks = rw c.from-count.ensures at c.put_number-2.ensures in
    behind_both digit blocks (ap (λ (t : ℕ). c.args.from + t) (sym (length_hex 1 _)))
