-- `tables::generator_3`: the table is 01's rule, by computation.
use mathlib.Core.Path.{refl}
use Rattle.algebra.specs.Sum.{power}
use Rattle.algebra.specs.Polynomial.{times_root_after, from_roots}
use Rattle.area.specs.Lists.{tabulate}
use Rattle.field.specs.Fields.{ops_of, eight}
use Rattle.field.specs.Binary.{binary, times_bits, times_alpha}
use Rattle.code.specs.Generator.{points, generator_polynomial, row_symbol}
use Rattle.tables.specs.parts.Rows.{generator_of}
use Rattle.tables.proofs.generator_3.Goals as goal

pub returns : goal.returns
unfolding generator_of tabulate row_symbol generator_polynomial points from_roots times_root_after power ops_of eight binary times_bits times_alpha
returns c = refl
