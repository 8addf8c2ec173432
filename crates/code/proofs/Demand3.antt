-- Demand 3 on lists of bytes, as specs/Demand3 states it.
-- Holds: `first_differing_block`, `independent_of_later_blocks`, `at_most_one_fits`, of a sound setting; `demand_3`, of every setting by its number; `limit_enough`.
use mathlib.Core.Path.{◌≡◌, sym, subst, ◌∙◌}
use Prim.Native.Nat.{ℕ, ◌+◌, ◌*◌, ◌≤◌, ◌<◌}
use native.Mathlib.Nat.{mul-le-mul_right}
use native.Mathlib.Omega.{arith}
use lib.ListN.{length, take, drop, length-take, length-drop}
use lib.Seq.{ext_get_or, get_or-take, get_or-drop}
use Rattle.area.proofs.Lists.{equal_part, part_equal}
use Rattle.code.specs.declared.Setting.{Setting}
use Rattle.code.specs.Code.{distances_to}
use Rattle.code.specs.Settings.{setting_of}
use Rattle.code.specs.parts.Sound.{Sound}
use Rattle.code.specs.Windows.{LimitEnough}
use Rattle.code.specs.Demand3.{FirstDifferingBlock, AtMostOneFits, IndependentOfLaterBlocks, Demand3}
use Rattle.code.proofs.Cost.{fits_cost, fits_near, within_limit}
use Rattle.code.proofs.Messages.{block_determined, messages_agree, alike_window}
use Rattle.code.proofs.Settings.{sound_of}

module _ (p : Setting) (S : Sound p) where
  pub first_differing_block : FirstDifferingBlock p
  first_differing_block T reception x y j long X Y l agree differ near_x near_y =
      let top : j + 1 ≤ T = omega arith in
      let room : (j + 1) * p.k ≤ T * p.k = mul-le-mul_right p.k top in
      let long_x : length (take p.k (drop (j * p.k) x)) ≡ p.k = omega (arith, length-take p.k (drop (j * p.k) x), length-drop (j * p.k) x, X.long) in
      let long_y : length (take p.k (drop (j * p.k) y)) ≡ p.k = omega (arith, length-take p.k (drop (j * p.k) y), length-drop (j * p.k) y, Y.long) in
      differ (ext_get_or 0 (take p.k (drop (j * p.k) x)) (take p.k (drop (j * p.k) y)) (long_x ∙ sym long_y)
      (λ r h. let inside : r < p.k = omega arith in
      get_or-take p.k (drop (j * p.k) x) r 0 inside ∙ (get_or-drop (j * p.k) x r 0
      ∙ (block_determined p S T x y X Y reception j (equal_part x y (j * p.k) agree)
      ((fits_cost p S T reception x X j l).0 near_x) ((fits_cost p S T reception y Y j l).0 near_y) r inside
      ∙ sym (get_or-take p.k (drop (j * p.k) y) r 0 inside ∙ get_or-drop (j * p.k) y r 0)))))

  pub independent_of_later_blocks : IndependentOfLaterBlocks p
  independent_of_later_blocks T v w x y j fits_x fits_y l alike =
      let top : j + 1 ≤ T = omega arith in
      let room : (j + 1) * p.k ≤ T * p.k = mul-le-mul_right p.k top in
      part_equal x y ((j + 1) * p.k) (omega (arith, fits_x.message_of.long)) (omega (arith, fits_y.message_of.long))
      (messages_agree p S T x y fits_x.message_of fits_y.message_of w (j + 1)
      (λ i h. subst (λ (t : ℕ). t < distances_to p.n p.k p.m) (alike_window p v w x j i alike (omega arith))
      (fits_near p S T v x fits_x i (omega arith)))
      (λ i h. fits_near p S T w y fits_y i (omega arith)))

  pub at_most_one_fits : AtMostOneFits p
  at_most_one_fits T reception x y fits_x fits_y =
      ext_get_or 0 x y (fits_x.message_of.long ∙ sym fits_y.message_of.long)
      (λ i h. messages_agree p S T x y fits_x.message_of fits_y.message_of reception T
      (fits_near p S T reception x fits_x) (fits_near p S T reception y fits_y) i (omega (arith, fits_x.message_of.long)))

-- All three, by the setting's number.
pub demand_3 : Demand3
demand_3 s t = let S = sound_of s t in (first_differing_block (setting_of s) S, at_most_one_fits (setting_of s) S, independent_of_later_blocks (setting_of s) S)

-- 01's limit is enough for 02's, whatever was received.
pub limit_enough : LimitEnough
limit_enough s T reception message j t M = within_limit (setting_of s) (sound_of s t) T reception message M j
