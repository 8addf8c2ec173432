-- The two answers of the block step, from what its parts promise (the chain: distance lemma, locator, spectrum of the error, information).
-- Holds: `known_in_level`, `cost_in_level`; `step_unknown`, `step_long`, `step_clean`, `step_near`, `step_far`, `step_marked`.
use mathlib.Core.Path.{◌≡◌, refl, sym, ap, subst, ◌∙◌}
use Rattle.std.specs.Prelude.{Some, None}
use Rattle.std.specs.Bool.{then_some}
use mathlib.Core.Bool.{Bool, true, false}
use mathlib.Core.List.{List}
use Prim.Native.Nat.{ℕ, ◌+◌, ◌-◌, ◌*◌, ◌≤◌, ◌<◌, min}
use native.Mathlib.Omega.{arith}
use lib.ListN.{length, replicate}
use Rattle.algebra.specs.Ops.{pick}
use Rattle.algebra.proofs.Weights.{total_ext, total_most}
use Rattle.area.specs.Lists.{view}
use Rattle.field.specs.Fields.{ops_of, alpha}
use Rattle.field.specs.parts.Sequences.{at}
use Rattle.field.proofs.Laws.{laws_of}
use Rattle.field.proofs.Symbols.{all_symbols}
use Rattle.code.specs.declared.Setting.{Setting}
use Rattle.code.specs.Code.{level_distance}
use Rattle.code.specs.Level.{combination, InLevel, Vanishes}
use Rattle.code.specs.Windows.{unknown_symbols}
use Rattle.code.specs.parts.Cost.{symbol_cost, block_cost, level_cost}
use Rattle.code.specs.Settings.{code_of}
use Rattle.code.specs.parts.Sound.{Sound}
use Rattle.code.proofs.Blocks.{combination_ext}
use Rattle.code.proofs.CodeBelow.{over_field, lifted, combination_number}
use Rattle.code.proofs.LevelBlocks.{vanishing_in_level}
use Rattle.code.proofs.Settings.{level_fits}
use Rattle.code.proofs.Cost.{known_byte, cost_same, cost_count, all_known}
use Rattle.block.specs.declared.TheConstants.{PLACES}
use Rattle.block.specs.declared.locator.Locator.{Locator}
use Rattle.block.specs.declared.spectrum.Spectrum.{Spectrum}
use Rattle.block.specs.parts.Locator.{Located}
use Rattle.block.specs.parts.Factors.{times_factors, unknown_places, Filled}
use Rattle.block.specs.parts.Candidate.{syndromes_at, Begun, Candidate}
use Rattle.block.specs.parts.Marking.{repair_marks, RepairMarked, within, beyond}
use Rattle.block.specs.parts.Step.{InformationTo, Step, near, far}
use Rattle.block.proofs.LocatorBelow.{series_vanishes}
use Rattle.block.proofs.Factors.{no_factors, length_places}
use Rattle.block.proofs.Marking.{marks_none}
use Rattle.block.proofs.CandidateBelow.{degree_of_near_below, read_of_near}

-- A block of a level has no unknown symbol ..
known_in_level : {p : Setting} (S : Sound p) (l : ℕ) (block : List ℕ) (C : InLevel p l block) → (i : ℕ) → i < p.n → at block i < p.q
known_in_level {p} S l block C i h =
    subst (λ (t : ℕ). t < p.q) (combination_number p S C.information l i (λ b r u v. C.below b r) ∙ sym (C.same i h))
    (combination (over_field p S) l (lifted p S C.information) i).1

-- .. and one without unknown symbols costs nothing against its information.
cost_in_level : (p : Setting) (l : ℕ) (block : List ℕ) → ((i : ℕ) → i < p.n → at block i < p.q) → (C : InLevel p l block)
    → level_cost p (at block) l C.information ≡ 0
unfolding block_cost
cost_in_level p l block known C =
    omega (
      arith,
      total_most p.n 0 (λ i. symbol_cost p.q (at block i) (combination (code_of p) l C.information i))
          (λ i h. omega (arith, cost_same p.q (at block i) (combination (code_of p) l C.information i) (known i h) (C.same i h))),
    )

-- More unknown symbols than a level has syndromes cost too much against any information.
pub step_unknown : (p : Setting) {l : ℕ} {block marks : List ℕ} → level_distance p.n p.k l ≤ unknown_symbols p.q p.n (at block) → marks ≡ replicate p.n 0
    → Step p l block marks None
unfolding block_cost
step_unknown p {l} {block} h unset = far (λ x information. omega (arith, h, cost_count p.q p.n (at block) (combination (code_of p) l x))) unset

module _ {p : Setting} (S : Sound p) (room : p.n < PLACES) {l : ℕ} (level : l ≤ p.m) {block symbols : List ℕ} (whole : length block ≡ p.n)
    (long : length symbols ≡ p.n) (filled : Filled p.q block symbols) {spectrum : Spectrum} {σ : Locator} (B : Begun p l block symbols spectrum σ) where
  abbrev places : List ℕ
  places = unknown_places p.q block

  -- A locator of too high a degree: every information is far.
  pub step_long : {marks : List ℕ} → level_distance p.n p.k l + length places ≤ 2 * σ.degree → marks ≡ replicate p.n 0 → Step p l block marks None
  step_long h unset =
      far (λ x information.
      let never : level_cost p (at block) l x < level_distance p.n p.k l → ⊥ =
      λ close. omega (arith, h, degree_of_near_below p S room level whole long filled x information B close) in
      omega arith)
      unset

  module _ {found : List ℕ} (C : Candidate p l symbols σ found) where
    -- If the information x is near, it combines to the same block as what was read.
    same_block : (x : ℕ → ℕ → ℕ) → InformationTo p l x → level_cost p (at block) l x < level_distance p.n p.k l
        → (i : ℕ) → combination (code_of p) l (view p.k found) i ≡ combination (code_of p) l x i
    same_block x information close i =
        combination_ext (code_of p) l (view p.k found) x i (read_of_near p S room level whole long filled x information B close C)

    -- So it costs the same.
    same_cost : (x : ℕ → ℕ → ℕ) → InformationTo p l x → level_cost p (at block) l x < level_distance p.n p.k l
        → level_cost p (at block) l (view p.k found) ≡ level_cost p (at block) l x
    unfolding block_cost
    same_cost x information close = total_ext p.n _ _ (λ i h. ap (symbol_cost p.q (at block i)) (same_block x information close i))

    -- A locator of degree 0: no symbol is unknown, and all syndromes are zero.
    module _ (none : σ.degree ≡ 0) where
      no_places : length places ≡ 0
      no_places = omega (arith, none, B.included.degree)

      known : (i : ℕ) → i < p.n → at block i < p.q
      known = all_known p.q p.n (at block) (ap (λ (n : ℕ). unknown_symbols p.q n (at block)) (sym whole) ∙ sym (length_places _ (length block)) ∙ no_places)

      same_symbol : (i : ℕ) → i < p.n → at block i ≡ at symbols i
      same_symbol i h = sym (filled.same i (omega (arith, whole)) ∙ ap (λ (t : Bool). pick t 0 (at block i)) (known_byte (known i h)))

      modified_is : (s : ℕ) → s < syndromes_at p l → at B.modified (s + 1) ≡ at spectrum.series (s + 1)
      modified_is s h =
          let place : length places + s + 1 ≡ length places + (s + 1) = omega arith in
          B.modifies.terms s (omega (arith, h, no_places))
          ∙ ap (times_factors (ops_of p.q) alpha places (at spectrum.series)) place
          ∙ no_factors (ops_of p.q) alpha (at spectrum.series) places (s + 1) no_places

      syndromes_vanish : Vanishes p l symbols
      syndromes_vanish s h =
          let pair = B.located in
          sym (B.known.spectral.values s (omega (arith, h, B.all)))
          ∙ sym (modified_is s h)
          ∙ series_vanishes p.q (ops_of p.q) (laws_of p.q S.good) (at B.modified) (at B.found.coefficients) (at B.found.former) B.found.scale B.modifies.below
          pair.locator_below pair.former_below pair.scale_below
          (subst (λ (L : ℕ). Located (ops_of p.q) (at B.modified) (syndromes_at p l - length places) L B.found.place B.found.scale (at B.found.coefficients)
          (at B.found.former)) degree_none pair.located)
          (s + 1) (omega arith) (omega (arith, h, no_places))
        where
          degree_none : B.found.degree ≡ 0
          degree_none = omega (arith, none, B.included.degree)

      -- The block is of the level ..
      of_level : InLevel p l symbols
      of_level = vanishing_in_level p S l (level_fits p S l level) symbols long (all_symbols filled.below) syndromes_vanish

      -- .. and what was received costs nothing against its information.
      free : level_cost p (at block) l of_level.information ≡ 0
      unfolding block_cost
      free =
          total_ext p.n _ _ (λ i h. ap (λ (v : ℕ). symbol_cost p.q v (combination (code_of p) l of_level.information i)) (same_symbol i h))
          ∙ cost_in_level p l symbols (known_in_level S l symbols of_level) of_level

      -- So what was read combines to the same, and no symbol is repaired.
      pub step_clean : {marks : List ℕ} → marks ≡ replicate p.n 0 → Step p l block marks (Some found)
      step_clean unset =
          let information : InformationTo p l of_level.information = λ b r u v. of_level.below b r in
          let close : level_cost p (at block) l of_level.information < level_distance p.n p.k l = omega (arith, free) in
          near C.reads.below (omega (arith, free, same_cost of_level.information information close))
          (unset ∙ marks_none p block l (view p.k found)
          (λ i h. same_symbol i h ∙ of_level.same i h ∙ sym (same_block of_level.information information close i)))

    -- Any other, by what its repair costs, counted up to the bound: what was read is near, or nothing is.
    module _ {bound cost : ℕ} (same : bound ≡ level_distance p.n p.k l)
        (counted : min bound cost ≡ min bound (level_cost p (at block) l (view p.k found))) where
      pub step_near : {marks : List ℕ} → cost < bound → marks ≡ repair_marks p block l (view p.k found) → Step p l block marks (Some found)
      step_near h marked = near C.reads.below (omega (arith, same, counted)) marked

      pub step_far : {marks : List ℕ} → bound ≤ cost → marks ≡ replicate p.n 0 → Step p l block marks None
      step_far h unset =
          far (λ x information.
          let never : level_cost p (at block) l x < level_distance p.n p.k l → ⊥ = λ close. omega (arith, same, counted, same_cost x information close) in
          omega arith)
          unset

    -- So what was read is near, and what it repairs is marked, or nothing is near, and nothing is marked.
    pub step_marked : {marks : List ℕ} {bound : ℕ} → bound ≡ level_distance p.n p.k l → (b : Bool)
        → RepairMarked p block l (view p.k found) bound marks b → Step p l block marks (then_some b found)
    step_marked same true (within close marked) = step_near same refl close marked
    step_marked same false (beyond heavy unset) = step_far same refl heavy unset
