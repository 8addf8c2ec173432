-- What every setting satisfies (`Sound`), by one computed test over the list.
-- Holds: `setting_range`, `sound_of`, `block_positive`, `level_fits`, `information_fits`; `Sizes`, `sizes`, `sizes_of` (the bounds that follow
-- for every setting there can be); of a `SettingNumber` `number_known`, `sizes_of_number`; `largest_at`, `largest_of` (a setting's figure is at
-- most the largest).
use mathlib.Core.Bool.{Bool, true, ◌&&◌}
use mathlib.Core.List.{List, [], ◌∷◌}
use Prim.Native.Nat.{ℕ, zero, suc, ◌+◌, ◌-◌, ◌*◌, ◌≤◌, ◌<◌}
use native.Mathlib.Omega.{arith}
use native.Mathlib.Nat.{not-suc-le-zero, le_of_suc-le-suc, mul-le-mul, mul-le-mul_right}
use lib.Dec.{T as Passes, eqb, eqb→eq, leb, leb→le}
use lib.ListN.{length, get_or}
use Rattle.algebra.proofs.Tests.{and_left, and_right}
use Rattle.field.specs.Fields.{fields}
use Rattle.field.specs.parts.Operations.{is_field}
use Rattle.field.proofs.Operations.{good_small}
use Rattle.code.specs.declared.Setting.{Setting}
use Rattle.code.specs.declared.SettingNumber.{SettingNumber}
use Rattle.code.specs.declared.SettingNumber.TheVariants.{One, Two, Three, Four, Five}
use Rattle.code.specs.Settings.{setting, settings, is_setting, setting_of, largest}
use Rattle.code.specs.parts.SettingNumbers.{number_of, parameters_of}
use Rattle.code.specs.parts.Sound.{Sound}

-- A setting's number is in the list's range.
pub setting_range : (s : ℕ) → Passes (is_setting s) → (1 ≤ s) × (s ≤ length settings)
setting_range s t = (
  leb→le 1 s (and_left (leb 1 s) (leb s (length settings)) t),
  leb→le s (length settings) (and_right (leb 1 s) (leb s (length settings)) t),
)

-- `Sound` as a test, of a setting and of each in a list.
abbrev is_sound : Setting → Bool
is_sound p = is_field p.q fields && (eqb p.n (p.q - 1) && (leb 1 p.k && leb ((p.m + 1) * p.k) p.n))

sound_by_test : (p : Setting) → Passes (is_sound p) → Sound p
sound_by_test p t =
    let block = eqb p.n (p.q - 1) in
    let information = leb 1 p.k in
    let room = leb ((p.m + 1) * p.k) p.n in
    let t' = and_right (is_field p.q fields) (block && (information && room)) t in
    let t'' = and_right block (information && room) t' in
    record {
      good = record { listed = and_left (is_field p.q fields) (block && (information && room)) t };
      block = eqb→eq p.n (p.q - 1) (and_left block (information && room) t');
      information = leb→le 1 p.k (and_left information room t'');
      room = leb→le ((p.m + 1) * p.k) p.n (and_right information room t'');
    }

abbrev all_sound : List Setting → Bool
all_sound [] = true
all_sound (p ∷ rest) = is_sound p && all_sound rest

sound_at : (l : List Setting) → Passes (all_sound l) → (i : ℕ) (d : Setting) → i < length l → Sound (get_or l i d)
sound_at [] t i d h = absurd (not-suc-le-zero h)
sound_at (p ∷ rest) t zero d h = sound_by_test p (and_left (is_sound p) (all_sound rest) t)
sound_at (p ∷ rest) t (suc i) d h = sound_at rest (and_right (is_sound p) (all_sound rest) t) i d (le_of_suc-le-suc h)

pub sound_of : (s : ℕ) → Passes (is_setting s) → Sound (setting_of s)
sound_of s t = sound_at settings tt (s - 1) (setting 0 0 0) (omega (arith, setting_range s t))

-- A block has symbols.
pub block_positive : (p : Setting) → Sound p → 1 ≤ p.n
block_positive p S =
    let least : 1 ≤ p.m + 1 = omega arith in
    omega (arith, S.room, mul-le-mul least S.information)

-- The information of level l fits a block.
pub level_fits : (p : Setting) → Sound p → (l : ℕ) → l ≤ p.m → (l + 1) * p.k ≤ p.n
level_fits p S l h = let up : l + 1 ≤ p.m + 1 = omega arith in omega (arith, mul-le-mul_right p.k up, S.room)

pub information_fits : (p : Setting) → Sound p → p.k ≤ p.n
information_fits p S = omega (arith, level_fits p S 0 (omega arith))

-- A symbol is a byte, so a block has at most 255 of them; memory and information are bounded with it.
pub record Sizes (p : Setting) : Type 0 where
  pub symbols : 1 ≤ p.n
  pub symbols_most : p.n ≤ 255
  pub information : 1 ≤ p.k
  pub information_most : p.k ≤ 255
  pub memory_most : p.m ≤ 255

pub sizes : (p : Setting) → Sound p → Sizes p
sizes p S =
    let least : 1 ≤ p.m + 1 = omega arith in
    let all : p.m + 1 ≤ p.m + 1 = omega arith in
    let most : p.n ≤ 255 = omega (arith, S.block, good_small p.q S.good) in
    record {
      symbols = block_positive p S;
      symbols_most = most;
      information = S.information;
      information_most = omega (arith, S.room, mul-le-mul_right p.k least);
      memory_most = omega (arith, S.room, mul-le-mul all S.information);
    }

pub sizes_of : (s : ℕ) → Passes (is_setting s) → Sizes (setting_of s)
sizes_of s t = sizes (setting_of s) (sound_of s t)

-- The same of a `SettingNumber`, whose number is a setting's.
pub number_known : (s : SettingNumber) → Passes (is_setting (number_of s))
number_known One = tt
number_known Two = tt
number_known Three = tt
number_known Four = tt
number_known Five = tt

pub sizes_of_number : (s : SettingNumber) → Sizes (parameters_of s)
sizes_of_number s = sizes_of (number_of s) (number_known s)

-- A setting's figure is at most the largest.
pub largest_at : (figure : Setting → ℕ) (l : List Setting) (i : ℕ) (d : Setting) → i < length l → figure (get_or l i d) ≤ largest figure l
largest_at figure [] i d h = absurd (not-suc-le-zero h)
largest_at figure (p ∷ rest) zero d h = omega arith
largest_at figure (p ∷ rest) (suc i) d h = let later = largest_at figure rest i d (le_of_suc-le-suc h) in omega arith

pub largest_of : (figure : Setting → ℕ) (s : ℕ) → Passes (is_setting s) → figure (setting_of s) ≤ largest figure settings
largest_of figure s t = largest_at figure settings (s - 1) (setting 0 0 0) (omega (arith, setting_range s t))
