-- The settings (01, "Two fields and three settings"; 02, #101), chosen by number, and the code of each.
-- Holds: `setting`, `settings`, `is_setting`, `setting_of`, `code_of`, `largest`; the settings' distances, computed (`distances_of`,
-- `table_of_distances`).
use Rattle.std.specs.Prelude.{◌≡◌, refl, Bool, ◌&&◌, List, [], ◌∷◌, ◌++◌, map, ℕ, ◌+◌, ◌-◌, max, leb, length, get_or}
use Rattle.area.specs.Lists.{tabulate}
use Rattle.field.specs.Fields.{ops_of, alpha}
use Rattle.code.specs.declared.Setting.{Setting}
use Rattle.code.specs.Code.{Code, level_distance, distances_to, design_distance, limit}

-- "A block has n = q - 1 symbols. An information block has k. The memory is m."
abbrev pub setting : ℕ → ℕ → ℕ → Setting
setting q k m = record { q = q; n = q - 1; k = k; m = m }

-- Settings 1, 2 and so on: 01's three, and the two of 02's #101.
abbrev pub settings : List Setting
settings = setting 5 1 2 ∷ setting 8 2 2 ∷ setting 8 3 1 ∷ setting 16 3 3 ∷ setting 16 5 2 ∷ []

-- Question 1: is it the number of a setting?
abbrev pub is_setting : ℕ → Bool
is_setting s = leb 1 s && leb s (length settings)

-- The setting with a number; what it says of a number that is none matters nowhere, since every call asks question 1 first.
abbrev pub setting_of : ℕ → Setting
setting_of s = get_or settings (s - 1) (setting 0 0 0)

-- The code of a setting, over the field with q elements.
abbrev pub code_of : Setting → Code ℕ
code_of p = record { ops = ops_of p.q; α = alpha; n = p.n; k = p.k; m = p.m }

-- The largest of a figure of the settings: what has room for that has room for each.
abbrev pub largest : (Setting → ℕ) → List Setting → ℕ
largest figure [] = 0
largest figure (p ∷ rest) = max (figure p) (largest figure rest)

-- Examples, computed: 01's table and what 02 says of the others, d_0, .., d_m, d and t of each setting.
abbrev pub distances_of : Setting → List ℕ
distances_of p = tabulate (p.m + 1) (level_distance p.n p.k) ++ design_distance p.n p.k p.m ∷ limit p.n p.k p.m ∷ []

pub table_of_distances : map distances_of settings
    ≡ (4 ∷ 3 ∷ 2 ∷ 8 ∷ 4 ∷ [])
    ∷ (6 ∷ 4 ∷ 2 ∷ 11 ∷ 5 ∷ [])
    ∷ (5 ∷ 2 ∷ 6 ∷ 3 ∷ [])
    ∷ (13 ∷ 10 ∷ 7 ∷ 4 ∷ 33 ∷ 16 ∷ [])
    ∷ (11 ∷ 6 ∷ 1 ∷ 17 ∷ 8 ∷ [])
    ∷ []
unfolding distances_to tabulate
table_of_distances = refl
