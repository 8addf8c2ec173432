-- Sums of the level codes' distances. Holds: `distances_sum` (as a chain makes them), `distances_small`, `distances_last`.
use mathlib.Core.Path.{◌≡◌, refl, sym, ap, ◌∙◌}
use mathlib.Core.List.{map}
use Prim.Native.Nat.{ℕ, zero, suc, ◌+◌, ◌*◌, ◌≤◌}
use native.Mathlib.Omega.{arith}
use native.Mathlib.Numerals.{add-one}
use Rattle.std.specs.List.{sum, range_with_len}
use Rattle.std.proofs.lemmas.List.FromFn.{sum_by-map-range_with_len_more}
use Rattle.code.specs.Code.{level_distance, distances_to}

pub distances_sum : (n k l : ℕ) → sum (map (level_distance n k) (range_with_len 0 (l + 1))) ≡ distances_to n k l
unfolding distances_to
distances_sum n k zero = sum_by-map-range_with_len_more (λ d. d) (level_distance n k) 0 0 0 refl ∙ omega arith
distances_sum n k (suc l) =
    sum_by-map-range_with_len_more (λ d. d) (level_distance n k) 0 (suc l) (suc l) (omega arith)
    ∙ ap (λ (t : ℕ). t + level_distance n k (suc l)) (ap (λ (t : ℕ). sum (map (level_distance n k) (range_with_len 0 t))) (sym (add-one l)) ∙ distances_sum n k l)

pub distances_small : (n k l : ℕ) → n ≤ 255 → distances_to n k l ≤ (l + 1) * 256
unfolding distances_to
distances_small n k zero h = omega arith
distances_small n k (suc l) h = omega (arith, distances_small n k l h)

-- The last of them is no more than their sum.
pub distances_last : (n k l : ℕ) → level_distance n k l ≤ distances_to n k l
unfolding distances_to
distances_last n k zero = omega arith
distances_last n k (suc l) = omega arith
