-- `block::unknown::count`: no symbol before the index is unknown.
use mathlib.Core.Path.{◌≡◌}
use Rattle.field.specs.parts.Sequences.{at}
use Rattle.code.specs.Windows.{unknown_symbols}
use Rattle.block.proofs.unknown.count.Given as goal

abbrev pub invariant-loop-received : goal.invariant-loop-received
invariant-loop-received l = 0 ≡ unknown_symbols l.q l.received-index (at l.block)
