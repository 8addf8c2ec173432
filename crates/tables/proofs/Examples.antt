-- The sources' worked matrices are the generators of our settings, by computation.
-- Holds: `example_4_1` (000), `example_4_5b` (004).
use mathlib.Core.Path.{◌≡◌, refl}
use mathlib.Core.List.{[], ◌∷◌}
use Rattle.algebra.specs.Sum.{power}
use Rattle.algebra.specs.Polynomial.{from_roots, times_root_after}
use Rattle.area.specs.Lists.{tabulate}
use Rattle.field.specs.Fields.{ops_of, five, eight}
use Rattle.field.specs.Modular.{modular}
use Rattle.field.specs.Binary.{binary, times_bits, times_alpha}
use Rattle.code.specs.Generator.{points, generator_polynomial, row_symbol}
use Rattle.code.specs.Settings.{setting_of}
use Rattle.tables.specs.parts.Rows.{generator_of}

-- 000, Example 4.1: G_0, G_1 and G_2.
pub example_4_1 : generator_of (setting_of 1)
    ≡ ((2 ∷ 4 ∷ 3 ∷ 1 ∷ []) ∷ [])
    ∷ ((2 ∷ 3 ∷ 2 ∷ 3 ∷ []) ∷ [])
    ∷ ((2 ∷ 1 ∷ 3 ∷ 4 ∷ []) ∷ [])
    ∷ []
unfolding generator_of tabulate row_symbol generator_polynomial points from_roots times_root_after power ops_of five modular
example_4_1 = refl

-- 004, Example 4.5(b), the second matrix, with the powers α^0 .. α^6 as the numbers 1 2 4 3 6 7 5: its part without z, then that with z.
pub example_4_5b : generator_of (setting_of 3)
    ≡ ((5 ∷ 7 ∷ 7 ∷ 4 ∷ 1 ∷ 0 ∷ 0 ∷ []) ∷ (0 ∷ 5 ∷ 7 ∷ 7 ∷ 4 ∷ 1 ∷ 0 ∷ []) ∷ (0 ∷ 0 ∷ 5 ∷ 7 ∷ 7 ∷ 4 ∷ 1 ∷ []) ∷ [])
    ∷ ((5 ∷ 2 ∷ 6 ∷ 6 ∷ 7 ∷ 0 ∷ 0 ∷ []) ∷ (0 ∷ 4 ∷ 6 ∷ 1 ∷ 1 ∷ 2 ∷ 0 ∷ []) ∷ (0 ∷ 0 ∷ 7 ∷ 1 ∷ 3 ∷ 3 ∷ 6 ∷ []) ∷ [])
    ∷ []
unfolding generator_of tabulate row_symbol generator_polynomial points from_roots times_root_after power ops_of eight binary times_bits times_alpha
example_4_5b = refl
