-- The marks of a repaired block: what they cost, that a block of the code has none, and how a loop sets them.
-- Holds: `cost_at`; `mark_set`; `repaired`, `mark`; `marks_cost`, `marks_none`; `MarkedTo`, `marked_start`, `marked_more`, `marked_all`.
use mathlib.Core.Path.{◌≡◌, refl, sym, ap, ◌∙◌}
use mathlib.Core.Bool.{Bool, true, false, not, ◌&&◌}
use mathlib.Core.List.{List}
use Prim.Native.Nat.{ℕ, ◌+◌, ◌*◌, ◌≤◌, ◌<◌}
use native.Mathlib.Omega.{arith}
use native.Mathlib.Decide.{dec_lt}
use lib.Dec.{eqb, ltb}
use lib.ListN.{length, set, replicate, length-replicate, length-set}
use mir.Val.{bool_byte}
use borrow.Author.Tests.{eq-eqb, lt-ltb, le-ltb}
use Rattle.algebra.specs.Ops.{pick}
use Rattle.algebra.proofs.Weights.{count_of_ext}
use Rattle.area.specs.Lists.{view}
use Rattle.area.specs.parts.Weights.{weight_to, weight_of}
use Rattle.area.proofs.Lists.{length_tabulate, get_d_tabulate, tabulated, get_d_zeros, stored}
use Rattle.field.specs.Symbols.{is_unknown}
use Rattle.field.specs.parts.Sequences.{at}
use Rattle.code.specs.declared.Setting.{Setting}
use Rattle.code.specs.Level.{combination}
use Rattle.code.specs.Settings.{code_of}
use Rattle.code.specs.Windows.{unknown_symbols}
use Rattle.code.specs.parts.Cost.{symbol_cost, block_cost, level_cost}
use Rattle.code.proofs.Cost.{known_byte, unknown_byte, cost_count}
use Rattle.tables.specs.declared.combination.Combination.{Combination}
use Rattle.block.specs.parts.Marking.{repair_marks}

-- What symbol i of a block costs against a combination.
abbrev pub cost_at : Combination → List ℕ → ℕ → ℕ
cost_at c block i =
    let p = c.tables.now.setting in
    symbol_cost p.q (at block i) (combination (code_of p) c.l (view p.k c.information.now) i)

-- What marking sets is the mark.
pub mark_set : (q v : ℕ) {s r mark : ℕ} → s ≡ r → mark ≡ bool_byte (not (eqb v s) && ltb v q) → mark ≡ pick (not (is_unknown q v) && not (eqb v r)) 1 0
mark_set q v {s} {r} same e = e ∙ by_byte (dec_lt v q)
  where
    byte : (b : Bool) → ◌≡◌ {A = ℕ} (bool_byte (b && true)) (pick b 1 0)
    byte true = refl
    byte false = refl

    none : (b : Bool) → ◌≡◌ {A = ℕ} (bool_byte (b && false)) 0
    none true = refl
    none false = refl

    by_byte : Dec (v < q) → bool_byte (not (eqb v s) && ltb v q) ≡ pick (not (is_unknown q v) && not (eqb v r)) 1 0
    by_byte (yes h) =
        ap (λ (t : Bool). bool_byte (not (eqb v s) && t)) (lt-ltb v q h) ∙ byte (not (eqb v s)) ∙ ap (λ (t : ℕ). pick (not (eqb v t)) 1 0) same
        ∙ sym (ap {B = ℕ} (λ (t : Bool). pick (not t && not (eqb v r)) 1 0) (known_byte h))
    by_byte (no d) =
        let past : q ≤ v = omega arith in
        ap (λ (t : Bool). bool_byte (not (eqb v s) && t)) (le-ltb v q past) ∙ none (not (eqb v s))
        ∙ sym (ap {B = ℕ} (λ (t : Bool). pick (not t && not (eqb v r)) 1 0) (unknown_byte past))

module _ (p : Setting) (block : List ℕ) (l : ℕ) (x : ℕ → ℕ → ℕ) where
  -- The repaired symbol at a place, and its mark.
  abbrev pub repaired : ℕ → ℕ
  repaired = combination (code_of p) l x

  abbrev pub mark : ℕ → ℕ
  mark i = pick (not (is_unknown p.q (at block i)) && not (eqb (at block i) (repaired i))) 1 0

  -- Two for each mark and one for each unknown symbol are what the block costs.
  pub marks_cost : 2 * weight_of (repair_marks p block l x) + unknown_symbols p.q p.n (at block) ≡ level_cost p (at block) l x
  unfolding block_cost
  marks_cost =
      ap (λ (t : ℕ). 2 * t + unknown_symbols p.q p.n (at block))
      (ap (weight_to (repair_marks p block l x)) (length_tabulate p.n _)
      ∙ count_of_ext p.n _ _ (λ i h. ap (λ (t : ℕ). not (eqb t 0)) (get_d_tabulate p.n _ i 0 h)
      ∙ set_where (not (is_unknown p.q (at block i)) && not (eqb (at block i) (repaired i)))))
      ∙ cost_count p.q p.n (at block) repaired
    where
      set_where : (b : Bool) → not (eqb (pick b 1 0) 0) ≡ b
      set_where true = refl
      set_where false = refl

  -- A block that is the combination itself has no mark.
  pub marks_none : ((i : ℕ) → i < p.n → at block i ≡ repaired i) → replicate p.n 0 ≡ repair_marks p block l x
  marks_none same =
      tabulated (replicate p.n 0) p.n mark (length-replicate p.n 0)
      (λ i h. get_d_zeros p.n i
      ∙ sym (ap {B = ℕ} (λ (b : Bool). pick (not (is_unknown p.q (at block i)) && not b) 1 0) (eq-eqb (at block i) (repaired i) (same i h))
      ∙ unset (not (is_unknown p.q (at block i)))))
    where
      unset : (b : Bool) → ◌≡◌ {A = ℕ} (pick (b && false) 1 0) 0
      unset true = refl
      unset false = refl

  -- The symbols before place i are marked.
  pub record MarkedTo (i : ℕ) (marks : List ℕ) : Type 0 where
    pub long : length marks ≡ p.n
    pub before : (a : ℕ) → a < i → at marks a ≡ mark a

  pub marked_start : {marks : List ℕ} → length marks ≡ p.n → MarkedTo 0 marks
  marked_start e = record { long = e; before = λ a u. absurd (omega arith) }

  pub marked_more : {i : ℕ} {marks : List ℕ} {v : ℕ} → MarkedTo i marks → i < p.n → v ≡ mark i → MarkedTo (i + 1) (set marks i v)
  marked_more {i} {marks} {v} M inside e =
      record {
        long = length-set marks i v ∙ M.long;
        before = stored marks (λ a. a) mark i v (omega (arith, M.long)) e (λ a u. omega arith) M.before;
      }

  pub marked_all : {marks : List ℕ} → MarkedTo p.n marks → marks ≡ repair_marks p block l x
  marked_all {marks} M = tabulated marks p.n mark M.long M.before
