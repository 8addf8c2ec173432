-- `line::characters::read_digits`: each value is that of its character.
use Rattle.std.proofs.lemmas.Slice.Zip.{AllZip-map}
use Rattle.line.specs.Characters.{digit_of}
use Rattle.line.proofs.characters.read_digits.Goals as goal

pub returns : goal.returns
returns c = AllZip-map digit_of _ _ c.write_each.ensures
