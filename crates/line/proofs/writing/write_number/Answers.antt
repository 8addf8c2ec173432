-- `line::writing::write_number`: the digits from place i on are written, and `left` is what the others hold.
use mathlib.Core.Path.{◌≡◌, ◌∙◌}
use Prim.Native.Nat.{◌-◌}
use native.Mathlib.Omega.{arith}
use lib.ListN.{length, length-set}
use Rattle.line.specs.Characters.{hex}
use Rattle.line.proofs.Hex.{hex_back, hex_all}
use Rattle.line.proofs.writing.write_number.Goals as goal

pub loop-i-preserved : goal.loop-i-preserved
loop-i-preserved c = (
  simp length-set (omega arith),
  length-set c.loop-i.area (c.loop-i.i - 1) c.last_digit.result ∙ c.loop-i.invariant.1,
  hex_back c.loop-i.i c.loop-i.left c.last_digit.result (hex (length c.args.area.now) c.args.number) c.loop-i.area
      c.loop-i-test.true c.loop-i.invariant.0 c.last_digit.ensures c.loop-i.invariant.2,
)

pub returns : goal.returns
returns c =
    let none : c.loop-i.i ≡ 0 = omega arith in
    hex_all c.loop-i.i c.loop-i.left (hex (length c.args.area.now) c.args.number) c.loop-i.area none
    c.loop-i.invariant.2
