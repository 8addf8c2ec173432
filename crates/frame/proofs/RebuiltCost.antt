-- What rebuilt blocks of a window cost. Holds: `cost_at`; `rebuilt_all`; `part_cost`.
use mathlib.Core.Path.{◌≡◌, refl, ap}
use mathlib.Core.List.{List}
use Prim.Native.Nat.{ℕ, ◌+◌}
use Rattle.algebra.specs.Weight.{total}
use Rattle.algebra.proofs.Weights.{total_ext}
use Rattle.area.specs.Lists.{view, part_at}
use Rattle.area.proofs.Parts.{part_at_symbol}
use Rattle.field.specs.parts.Sequences.{at}
use Rattle.code.specs.declared.Setting.{Setting}
use Rattle.code.specs.Level.{combination}
use Rattle.code.specs.parts.Cost.{symbol_cost, block_cost, rebuilt_cost, level_cost, window_cost}
use Rattle.code.specs.Settings.{code_of}
use Rattle.tables.specs.declared.combination.Combination.{Combination}
use Rattle.frame.specs.parts.Window.{rebuilt_term, cost_before}

-- What symbol i of a block costs against a combination.
abbrev pub cost_at : Combination → List ℕ → ℕ → ℕ
cost_at c block i =
    let p = c.tables.now.setting in
    symbol_cost p.q (at block i) (combination (code_of p) c.l (view p.k c.information.now) i)

-- What the blocks before block l cost, and what block l costs, make up what blocks 0 .. l cost.
pub rebuilt_all : (p : Setting) (window : List ℕ) (y : ℕ → ℕ → ℕ) (l : ℕ) → cost_before p window l y + rebuilt_term p window y l ≡ window_cost p window l y
unfolding rebuilt_cost total
rebuilt_all p window y l = refl

-- A block of a window, as the part that is lent, costs what the block costs.
pub part_cost : (p : Setting) (s l : ℕ) (window : List ℕ) (y : ℕ → ℕ → ℕ)
    → level_cost p (at (part_at p.n s window)) l y ≡ level_cost p (view p.n window s) l y
unfolding block_cost
part_cost p s l window y =
    total_ext p.n _ _ (λ i h. ap (λ (t : ℕ). symbol_cost p.q t (combination (code_of p) l y i)) (part_at_symbol p.n s window i h))
