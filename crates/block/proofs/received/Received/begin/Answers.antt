-- `block::received::Received::begin` meets its contract.
use mathlib.Core.Path.{sym, ◌∙◌}
use native.Mathlib.Omega.{arith}
use Rattle.field.proofs.Symbols.{all_symbols}
use Rattle.block.proofs.Spectra.{known_none}
use Rattle.block.proofs.received.Received.begin.Goals as goal

pub add_values-requires : goal.add_values-requires
add_values-requires c =
    let t = c.args.self.now in (
      all_symbols {l = t.symbols.now} (rw t.tables.now.same_field at t.filled.below),
      omega arith,
      omega (arith, t.tables.now.narrow.block),
      known_none _ _ _ t.tables.now.field.good c.requires.0 c.requires.1 c.requires.2,
    )

pub returns : goal.returns
returns c =
    let t = c.args.self.now in
    let same = sym t.tables.now.same_field in
    let count = c.syndromes-syndromes.ensures in
    let read = c.add_values.ensures in
    record {
      all = read.0 ∙ count;
      known = rw same at read.1;
      modified = _;
      modifies = c.modified-modified.ensures;
      found = _;
      located = rw t.counted at rw same at rw count at c.of-locator.ensures;
      included = c.include_unknown.ensures;
    }
