-- The parameters of a doubly cyclic convolutional code, over any operations (000, Theorem 3.1; 01, "Two fields and three settings").
-- Holds: `Code`; its distances `level_distance` (d_l), `distances_to` (d_0 + .. + d_l), `design_distance` (d) and `limit` (t).
use Rattle.std.specs.Prelude.{ℕ, zero, suc, ◌+◌, ◌-◌, ◌*◌, ◌/◌}
use Rattle.algebra.specs.Ops.{Ops}

-- A block has n symbols and an information block k; the memory is m; α is the element whose powers are the points.
pub record Code (F : Type 0) : Type 0 where
  pub ops : Ops F
  pub α : F
  pub n : ℕ
  pub k : ℕ
  pub m : ℕ

module _ (n k : ℕ) where
  -- d_l = n - (l+1)k + 1
  abbrev pub level_distance : ℕ → ℕ
  level_distance l = n - (l + 1) * k + 1

  -- d_0 + .. + d_l
  unfoldable pub distances_to : ℕ → ℕ
  distances_to zero = level_distance 0
  distances_to (suc l) = distances_to l + level_distance (suc l)

  -- d = d_0 + .. + d_m - 1
  abbrev pub design_distance : ℕ → ℕ
  design_distance m = distances_to m - 1

  -- t is d/2 rounded down: the limit of a window.
  abbrev pub limit : ℕ → ℕ
  limit m = design_distance m / 2
