-- `desk::lines::Desk::answer_lines`: the text was read but for `rest`.
use mathlib.Core.List.{List}
use Prim.Native.Nat.{ℕ, ◌+◌, ◌≤◌, min}
use lib.ListN.{length}
use Rattle.desk.specs.declared.lines.TheConstants.{LINE}
use Rattle.desk.specs.Turns.{kept_line, Kept, output_room}
use Rattle.desk.proofs.Texts.{Reached}
use Rattle.desk.proofs.lines.Desk.answer_lines.Given as goal

abbrev pub invariant-loop-end : goal.invariant-loop-end
invariant-loop-end g l =
    (length l.self.output + output_room (min LINE (length l.self.line)) (length l.rest) ≤ g.row.OUTPUT)
    × ((begun : List ℕ) → Kept begun (kept_line LINE l.initial.self.line) → Reached LINE begun l.text l.self.line l.rest l.self.output)

abbrev pub decreases-loop-end : goal.decreases-loop-end
decreases-loop-end g l = length l.rest
