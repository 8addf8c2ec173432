-- `block_test::Level::digits` meets its contract. The loop's invariant: the array keeps its length and holds symbols.
use mathlib.Core.Path.{◌≡◌}
use lib.ListN.{length}
use Rattle.field.specs.Symbols.{Symbols}
use Rattle.tables.specs.parts.Rows.{longest_block}
use Rattle.block_test.proofs.Level.digits.Given as goal

abbrev pub invariant-loop-symbol : goal.invariant-loop-symbol
invariant-loop-symbol l = (length l.symbol-items ≡ longest_block) × Symbols l.q l.symbol-items
