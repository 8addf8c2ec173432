-- `lay_generator`: the first a rows stand in their places.
use mathlib.Core.Path.{◌≡◌}
use lib.ListN.{length}
use Rattle.tables.proofs.Filled.{Filled}
use Rattle.tables.proofs.lay_generator.Given as goal

abbrev pub invariant-loop-a : goal.invariant-loop-a
invariant-loop-a g l = (length l.area ≡ length l.initial.area) × Filled g.row.N g.row.POWERS l.generator l.a l.area
