-- `code::level_distance`: level l has room in a block.
use native.Mathlib.Omega.{arith}
use Rattle.code.proofs.Settings.{level_fits, sizes}
use Rattle.code.proofs.level_distance.Goals as goal

pub overflow_add-result : goal.overflow_add-result
overflow_add-result c = omega (arith, c.requires.1, (sizes c.args.p c.requires.0).memory_most)

pub overflow_mul-result : goal.overflow_mul-result
overflow_mul-result c = omega (arith, level_fits c.args.p c.requires.0 c.args.l c.requires.1, (sizes c.args.p c.requires.0).symbols_most)

pub overflow_sub-result : goal.overflow_sub-result
overflow_sub-result c = level_fits c.args.p c.requires.0 c.args.l c.requires.1
