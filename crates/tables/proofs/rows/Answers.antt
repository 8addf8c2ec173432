-- `rows`: the constants are the settings' generators, by computation.
use mathlib.Core.Path.{◌≡◌, refl}
use mathlib.Core.List.{List}
use Prim.Native.Nat.{ℕ, ◌+◌, ◌≤◌}
use native.Mathlib.Omega.{arith}
use lib.ListN.{length}
use Rattle.algebra.specs.Sum.{power}
use Rattle.algebra.specs.Polynomial.{times_root_after, from_roots}
use Rattle.area.specs.Lists.{tabulate}
use Rattle.field.specs.Fields.{ops_of, five, eight, sixteen}
use Rattle.field.specs.Modular.{modular}
use Rattle.field.specs.Binary.{binary, times_bits, times_alpha}
use Rattle.code.specs.declared.SettingNumber.{SettingNumber}
use Rattle.code.specs.Generator.{points, generator_polynomial, row_symbol}
use Rattle.code.specs.parts.SettingNumbers.{parameters_of}
use Rattle.tables.specs.parts.Rows.{generator_of, rows_length, LaidOut, RowsOf}
use Rattle.tables.proofs.Filled.{rows_of}
use Rattle.tables.proofs.rows.Goals as goal

-- What was laid out of setting n's generator is setting s's rows, where s is n.
laid : {s n : SettingNumber} (before after : List ℕ) {table : List (List (List ℕ))} → s ≡ n → rows_length (parameters_of s) ≤ length before
    → length after ≡ length before → LaidOut (parameters_of n).n (parameters_of n).k ((parameters_of n).m + 1) table after
    → table ≡ generator_of (parameters_of n) → RowsOf (parameters_of s) after
laid {n = n} before after is fits long L e = rw is (rows_of (parameters_of n) _ e after (omega (arith, rw is at fits, long)) L)

pub returns-in-One-clause-rows : goal.returns-in-One-clause-rows
unfolding generator_of tabulate row_symbol generator_polynomial points from_roots times_root_after power ops_of five modular
returns-in-One-clause-rows c = let l = c.lay_generator.ensures in laid _ _ c.in-One.is c.requires l.long l.laid refl

pub returns-in-Two-clause-rows : goal.returns-in-Two-clause-rows
unfolding generator_of tabulate row_symbol generator_polynomial points from_roots times_root_after power ops_of eight binary times_bits times_alpha
returns-in-Two-clause-rows c = let l = c.lay_generator-in-Two.ensures in laid _ _ c.in-Two.is c.requires l.long l.laid refl

pub returns-in-Three-clause-rows : goal.returns-in-Three-clause-rows
unfolding generator_of tabulate row_symbol generator_polynomial points from_roots times_root_after power ops_of eight binary times_bits times_alpha
returns-in-Three-clause-rows c = let l = c.lay_generator-in-Three.ensures in laid _ _ c.in-Three.is c.requires l.long l.laid refl

pub returns-in-Four-clause-rows : goal.returns-in-Four-clause-rows
unfolding generator_of tabulate row_symbol generator_polynomial points from_roots times_root_after power ops_of sixteen binary times_bits times_alpha
returns-in-Four-clause-rows c = let l = c.lay_generator-in-Four.ensures in laid _ _ c.in-Four.is c.requires l.long l.laid refl

pub returns-in-Five-clause-rows : goal.returns-in-Five-clause-rows
unfolding generator_of tabulate row_symbol generator_polynomial points from_roots times_root_after power ops_of sixteen binary times_bits times_alpha
returns-in-Five-clause-rows c = let l = c.lay_generator-in-Five.ensures in laid _ _ c.in-Five.is c.requires l.long l.laid refl
