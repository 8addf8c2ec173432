-- `block::information::read` meets its contract. The loop's invariant is the promise for b blocks.
use mathlib.Core.Path.{◌≡◌}
use lib.ListN.{length}
use Rattle.block.specs.parts.Information.{InformationRead}
use Rattle.block.proofs.information.read.Given as goal

abbrev pub invariant-loop-b : goal.invariant-loop-b
invariant-loop-b l = InformationRead l.tables.setting l.b l.values l.information × (length l.information ≡ length l.initial.information)
