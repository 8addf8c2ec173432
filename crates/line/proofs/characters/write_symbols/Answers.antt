-- `line::characters::write_symbols`: each character is that of its symbol.
use Rattle.std.proofs.lemmas.Slice.Zip.{AllZip-map}
use Rattle.line.specs.Characters.{character_of}
use Rattle.line.proofs.characters.write_symbols.Goals as goal

pub returns : goal.returns
returns c = AllZip-map character_of _ _ c.write_each.ensures
