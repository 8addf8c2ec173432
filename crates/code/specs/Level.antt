-- The level codes (01, "Level l's block code is spanned by the rows of G_0 to G_l").
-- Holds: `combination`, what information blocks x_0 .. x_l contribute to block l of a window; `InLevel`, `Vanishes`; what is proved of them, `LevelCode`,
-- `LevelBlocks`.
use Rattle.std.specs.Prelude.{◌≡◌, not, List, ℕ, suc, ◌+◌, ◌-◌, ◌*◌, ◌≤◌, ◌<◌, T as Passes, eqb, length, get_or}
use Rattle.algebra.specs.Sum.{sum, power}
use Rattle.algebra.specs.Polynomial.{value}
use Rattle.algebra.specs.Weight.{count_of}
use Rattle.field.specs.Fields.{ops_of, alpha}
use Rattle.field.specs.Symbols.{Symbols}
use Rattle.code.specs.declared.Setting.{Setting}
use Rattle.code.specs.Code.{Code, level_distance}
use Rattle.code.specs.Generator.{times_g}
use Rattle.code.specs.Settings.{is_setting, setting_of, code_of}

-- Symbol i of the sum over j ≤ l of x_(l-j) × G_j (000, (3.1)).
unfoldable pub combination : {F : Type 0} → Code F → ℕ → (ℕ → ℕ → F) → ℕ → F
combination c l x i = sum c.ops (suc l) (λ j. times_g c (x (l - j)) j i)

-- "spanned by the rows of G_0 to G_l": the block is a combination of l+1 information blocks.
pub record InLevel (p : Setting) (l : ℕ) (block : List ℕ) : Type 0 where
  pub information : ℕ → ℕ → ℕ
  pub below : (b r : ℕ) → information b r < p.q
  pub same : (i : ℕ) → i < p.n → get_or block i 0 ≡ combination (code_of p) l information i

-- The block's polynomial vanishes at α^0 .. α^(n-(l+1)k-1).
abbrev pub Vanishes : Setting → ℕ → List ℕ → Type 0
Vanishes p l block = (s : ℕ) → s < p.n - (l + 1) * p.k → value (ops_of p.q) block (power (ops_of p.q) alpha s) ≡ 0

-- "It consists exactly of the blocks whose polynomials vanish at α^0 .. α^(n-(l+1)k-1). Its nonzero blocks have at least d_l nonzero symbols."
pub record LevelCode (p : Setting) (l : ℕ) (block : List ℕ) : Type 0 where
  pub vanishes : InLevel p l block → Vanishes p l block
  pub exactly : Vanishes p l block → InLevel p l block
  pub heavy : InLevel p l block → (i : ℕ) → i < p.n → (get_or block i 0 ≡ 0 → ⊥)
      → level_distance p.n p.k l ≤ count_of p.n (λ i. not (eqb (get_or block i 0) 0))

-- Of every setting, level and block of n symbols (`level_blocks`, proofs/LevelBlocks).
abbrev pub LevelBlocks : Type 0
LevelBlocks = (s : ℕ) → Passes (is_setting s) → (l : ℕ) → l ≤ (setting_of s).m
    → (block : List ℕ) → length block ≡ (setting_of s).n → Symbols (setting_of s).q block → LevelCode (setting_of s) l block
