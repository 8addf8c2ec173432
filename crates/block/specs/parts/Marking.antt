-- The marks of a repaired block (02, #105: "a mark for each touched symbol, set if and only if received and repaired symbol differ there"; #106: "the block
-- step marks known symbols only").
-- Holds: `repair_marks`; `RepairMarked`, what marking promises.
use Rattle.std.specs.Prelude.{◌≡◌, Bool, true, false, not, ◌&&◌, List, ℕ, ◌≤◌, ◌<◌, eqb, replicate}
use Rattle.algebra.specs.Ops.{pick}
use Rattle.area.specs.Lists.{tabulate}
use Rattle.field.specs.Symbols.{is_unknown}
use Rattle.field.specs.parts.Sequences.{at}
use Rattle.code.specs.declared.Setting.{Setting}
use Rattle.code.specs.Level.{combination}
use Rattle.code.specs.Settings.{code_of}
use Rattle.code.specs.parts.Cost.{level_cost}

-- A byte for each symbol of a block that is repaired to the level-l combination of x: 1 where the symbol is known and the two differ, else 0.
abbrev pub repair_marks : Setting → List ℕ → ℕ → (ℕ → ℕ → ℕ) → List ℕ
repair_marks p block l x = tabulate p.n (λ i. pick (not (is_unknown p.q (at block i)) && not (eqb (at block i) (combination (code_of p) l x i))) 1 0)

-- The combination costs less than the bound, and what differs is marked; or it does not, and nothing is.
pub data RepairMarked (p : Setting) (block : List ℕ) (l : ℕ) (x : ℕ → ℕ → ℕ) (bound : ℕ) (marks : List ℕ) : Bool → Type 0 where
  within : level_cost p (at block) l x < bound → marks ≡ repair_marks p block l x → RepairMarked p block l x bound marks true
  beyond : bound ≤ level_cost p (at block) l x → marks ≡ replicate p.n 0 → RepairMarked p block l x bound marks false
