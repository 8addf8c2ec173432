-- 01's words on a level's block code, on lists of bytes: "It consists exactly of the blocks whose polynomials vanish at α^0 .. α^(n-(l+1)k-1). Its nonzero
-- blocks have at least d_l nonzero symbols."
-- Holds: `level_vanishes`, `vanishing_in_level` (exactly those blocks), `vanishing_heavy` (d_l); `level_blocks`, all three of every setting;
-- `every_block_of_5` (level 2 of setting 5).
use mathlib.Core.Path.{◌≡◌, sym, ap, ◌∙◌}
use mathlib.Core.Bool.{not}
use mathlib.Core.List.{List}
use Prim.Native.Nat.{ℕ, ◌+◌, ◌-◌, ◌*◌, ◌≤◌, ◌<◌}
use native.Mathlib.Omega.{arith}
use lib.Dec.{eqb}
use lib.ListN.{length, get_or}
use Rattle.algebra.specs.Sum.{power}
use Rattle.algebra.specs.parts.Values.{value_of}
use Rattle.algebra.specs.Weight.{count_of, weight}
use Rattle.algebra.proofs.Polynomials.{value_of_ext}
use Rattle.algebra.proofs.Weights.{count_of_ext}
use Rattle.algebra.proofs.Below.{Element, number, number_injective}
use Rattle.algebra.proofs.Distance.{zero_of_vanishing}
use Rattle.field.specs.Fields.{ops_of}
use Rattle.field.specs.Symbols.{Symbols}
use Rattle.code.specs.declared.Setting.{Setting}
use Rattle.code.specs.Code.{Code, level_distance}
use Rattle.code.specs.Level.{combination, InLevel, Vanishes, LevelBlocks}
use Rattle.code.specs.Settings.{setting_of}
use Rattle.code.specs.parts.Sound.{Sound}
use Rattle.code.proofs.Blocks.{combination_vanishes}
use Rattle.code.proofs.LevelCode.{information_of, level_code}
use Rattle.code.proofs.Naturality.{combination_natural}
use Rattle.code.proofs.Settings.{sound_of, level_fits}
use Rattle.code.proofs.CodeBelow.{laws, field_of, root_of, order_at, over_field, keeps, number_zero, mapped_code, lifted, combination_number, received}
use Rattle.code.proofs.CodeBelow.{received_number, value_number}

module _ (p : Setting) (S : Sound p) (l : ℕ) (fits : (l + 1) * p.k ≤ p.n) (block : List ℕ) (long : length block ≡ p.n) (symbols : Symbols p.q block) where
  vanishes_over : Vanishes p l block → (s : ℕ) → s < p.n - (l + 1) * p.k
      → value_of (field_of p S).ops p.n (received p S block) (power (field_of p S).ops (root_of p S) s) ≡ (field_of p S).ops.zero
  vanishes_over zeros s h = number_injective _ _ (value_number p S block symbols long s ∙ zeros s h ∙ sym (number_zero p S))

  -- A block of the level vanishes there.
  pub level_vanishes : InLevel p l block → Vanishes p l block
  level_vanishes C s h =
      sym (value_number p S block symbols long s)
      ∙ ap number (value_of_ext (field_of p S).ops p.n (received p S block) (combination (over_field p S) l (lifted p S C.information))
      (power (field_of p S).ops (root_of p S) s) same_element
      ∙ combination_vanishes (field_of p S) (root_of p S) p.n p.k p.m l (lifted p S C.information) s fits h)
      ∙ number_zero p S
    where
      same_element : (i : ℕ) → i < p.n → received p S block i ≡ combination (over_field p S) l (lifted p S C.information) i
      same_element i u =
          number_injective _ _ (received_number p S block symbols i ∙ C.same i u ∙ sym (combination_number p S C.information l i (λ b r u v. C.below b r)))

  -- A block that vanishes there, and is not zero, has at least d_l nonzero symbols.
  pub vanishing_heavy : Vanishes p l block → (i : ℕ) → i < p.n → (get_or block i 0 ≡ 0 → ⊥)
      → level_distance p.n p.k l ≤ count_of p.n (λ i. not (eqb (get_or block i 0) 0))
  vanishing_heavy zeros i u nonzero =
      let light : count_of p.n (λ i. not (eqb (get_or block i 0) 0)) < level_distance p.n p.k l → ⊥ =
      λ few. nonzero (sym (received_number p S block symbols i)
      ∙ (ap number (zero_of_vanishing (field_of p S) p.n (root_of p S) (order_at p S) 0 (p.n - (l + 1) * p.k) (received p S block)
      (λ s h. let same : 0 + s ≡ s = omega arith in
      ap (λ (t : ℕ). value_of (field_of p S).ops p.n (received p S block) (power (field_of p S).ops (root_of p S) t)) same ∙ vanishes_over zeros s h)
      (omega (arith, weight_same)) i u)
      ∙ number_zero p S)) in
      omega arith
    where
      weight_same : weight (field_of p S).ops p.n (received p S block) ≡ count_of p.n (λ i. not (eqb (get_or block i 0) 0))
      weight_same =
          count_of_ext p.n _ _ (λ i h. ap not ((keeps p S).on_test ((received p S block) i)
          ∙ (ap (ops_of p.q).is_zero (received_number p S block symbols i) ∙ (laws p S).test_is (get_or block i 0))))

  -- A block that vanishes there is of the level.
  pub vanishing_in_level : Vanishes p l block → InLevel p l block
  vanishing_in_level zeros =
      record {
        information = λ b r. number (x b r);
        below = λ b r. (x b r).1;
        same = λ i u. sym (received_number p S block symbols i)
            ∙ (ap number (sym (level_code (field_of p S) (root_of p S) p.n p.k p.m (order_at p S) l (received p S block) fits (vanishes_over zeros) i u))
            ∙ (combination_natural (over_field p S) (ops_of p.q) number (keeps p S) l x i
            ∙ ap (λ (c : Code ℕ). combination c l (λ b r. number (x b r)) i) (mapped_code p S)));
      }
    where
      x : ℕ → ℕ → Element p.q
      x = information_of (field_of p S) (root_of p S) p.n p.k p.m (order_at p S) l
          (λ s. value_of (field_of p S).ops p.n (received p S block) (power (field_of p S).ops (root_of p S) s))

pub level_blocks : LevelBlocks
level_blocks s t l low block long symbols =
    record {
      vanishes = level_vanishes p S l fits block long symbols;
      exactly = vanishing_in_level p S l fits block long symbols;
      heavy = λ c. vanishing_heavy p S l fits block long symbols (level_vanishes p S l fits block long symbols c);
    }
  where
    p : Setting
    p = setting_of s

    S : Sound (setting_of s)
    S = sound_of s t

    fits : (l + 1) * p.k ≤ p.n
    fits = level_fits p S l low

-- At level 2 of setting 5 no point is left to vanish at ((l+1)k = n, d_l = 1): every block is of its code.
pub every_block_of_5 : (block : List ℕ) → length block ≡ 15 → Symbols 16 block → InLevel (setting_of 5) 2 block
every_block_of_5 block long symbols = (level_blocks 5 tt 2 (omega arith) block long symbols).exactly (λ s h. absurd (omega arith))
