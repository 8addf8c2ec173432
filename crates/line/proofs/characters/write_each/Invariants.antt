-- `line::characters::write_each`: the first i bytes are written.
use lib.ListN.{take}
use Rattle.std.specs.List.{AllZip}
use Rattle.line.proofs.characters.write_each.Given as goal

abbrev pub invariant-loop-i : goal.invariant-loop-i
invariant-loop-i g l = AllZip (goal.F-post g l.of) (take l.i l.bytes) (take l.i l.area)
