-- `field::products` meets its contract: what the constants hold is tested entry by entry, which the checker computes.
use mathlib.Core.Path.{refl}
use Rattle.algebra.proofs.Tests.{all}
use Rattle.field.specs.Modular.{modular}
use Rattle.field.specs.Binary.{times_alpha, times_bits, binary}
use Rattle.field.specs.Fields.{five, eight, sixteen, ops_of}
use Rattle.field.proofs.ByExponents.{lists_by_tests}
use Rattle.field.proofs.products.Goals as goal

pub invariant_of-table : goal.invariant_of-table
unfolding all ops_of five modular
invariant_of-table c = let l = lists_by_tests _ _ _ tt refl refl tt tt tt in record { good = l.0; lists = l.1 }

pub invariant_of-table-in-8 : goal.invariant_of-table-in-8
unfolding all ops_of eight binary times_bits times_alpha
invariant_of-table-in-8 c = let l = lists_by_tests _ _ _ tt refl refl tt tt tt in record { good = l.0; lists = l.1 }

pub invariant_of-table-in_default : goal.invariant_of-table-in_default
unfolding all ops_of sixteen binary times_bits times_alpha
invariant_of-table-in_default c = let l = lists_by_tests _ _ _ tt refl refl tt tt tt in record { good = l.0; lists = l.1 }
