-- Berlekamp and Massey's algorithm, one place at a time, over any field.
-- Holds: `located_start`; the three outcomes at a place: `located_kept`, `located_corrected`, `located_grown`; `convolution_short`, `convolution_tail`.
use mathlib.Core.Path.{◌≡◌, refl, sym, ap, ap₂, ◌∙◌}
use Prim.Native.Nat.{ℕ, suc, ◌+◌, ◌-◌, ◌≤◌, ◌<◌}
use native.Mathlib.Nat.{add-suc as nat_add_suc}
use native.Mathlib.Numerals.{add-one}
use native.Mathlib.Omega.{arith}
use native.Mathlib.Decide.{ℕ_discrete, dec_lt}
use Rattle.algebra.specs.Ops.{Ops, sub}
use Rattle.algebra.specs.Sum.{sum}
use Rattle.algebra.proofs.Laws.{Field, add-zero, zero-mul, one-mul, mul_assoc, ring}
use Rattle.algebra.proofs.Sums.{sum_ext, sum_add, sum_scale, sum_zeros, sum_first, sum_split}
use Rattle.block.specs.parts.Locator.{convolution, tail, Located, Subtracted}

-- A convolution looks at the first j+1 terms of each side, over any operations.
convolution_ext : {F : Type 0} (o : Ops F) (a b c d : ℕ → F) (j : ℕ) → ((i : ℕ) → i ≤ j → a i ≡ b i) → ((i : ℕ) → i ≤ j → c i ≡ d i)
    → convolution o a c j ≡ convolution o b d j
unfolding convolution
convolution_ext o a b c d j h k =
    sum_ext o (suc j) (λ i. o.mul (a i) (c (j - i))) (λ i. o.mul (b i) (d (j - i)))
    (λ i l. ap₂ o.mul (h i (omega arith)) (k (j - i) (omega arith)))

module _ {F : Type 0} (K : Field F) where
  infixl 60 ◌⊕◌
  infixl 70 ◌⊗◌
  infix 80 ⊖◌
  open K.ops use {add as ◌⊕◌, mul as ◌⊗◌, neg as ⊖◌, zero as 𝟘, one as 𝟙}

  -- Terms that are zero from m on add nothing to a sum.
  pub sum_short : (m d : ℕ) (f : ℕ → F) → ((i : ℕ) → m ≤ i → f i ≡ 𝟘) → sum K.ops (m + d) f ≡ sum K.ops m f
  sum_short m d f h =
      sum_split K m d f ∙ ap (λ (t : F). sum K.ops m f ⊕ t) (sum_zeros K d (λ i. f (m + i)) (λ i l. h (m + i) (omega arith)))
      ∙ add-zero K (sum K.ops m f)

  -- A series that is zero above L needs only L+1 terms.
  pub convolution_short : (L : ℕ) (σ c : ℕ → F) → ((a : ℕ) → L < a → σ a ≡ 𝟘) → (j : ℕ) → L ≤ j
      → convolution K.ops σ c j ≡ sum K.ops (suc L) (λ a. σ a ⊗ c (j - a))
  unfolding convolution
  convolution_short L σ c h j l =
      let whole : suc j ≡ suc L + (j - L) = omega arith in
      ap (λ (t : ℕ). sum K.ops t (λ a. σ a ⊗ c (j - a))) whole
      ∙ sum_short (suc L) (j - L) (λ a. σ a ⊗ c (j - a)) (λ a s. ap (λ (t : F). t ⊗ c (j - a)) (h a s) ∙ zero-mul K (c (j - a)))

  -- With the first coefficient 1 apart.
  pub convolution_tail : (L : ℕ) (σ c : ℕ → F) → σ 0 ≡ 𝟙 → ((a : ℕ) → L < a → σ a ≡ 𝟘) → (j : ℕ) → L ≤ j
      → convolution K.ops σ c j ≡ c j ⊕ tail K.ops L σ c j
  unfolding tail
  convolution_tail L σ c e h j l =
      let whole : j - 0 ≡ j = omega arith in
      convolution_short L σ c h j l ∙ sum_first K L (λ a. σ a ⊗ c (j - a))
      ∙ ap₂ ◌⊕◌ (ap₂ ◌⊗◌ e (ap c whole) ∙ one-mul K (c j))
      (sum_ext K.ops L (λ a. σ (suc a) ⊗ c (j - suc a)) (λ a. σ (a + 1) ⊗ c (j - (a + 1)))
      (λ a s. ap (λ (t : ℕ). σ t ⊗ c (j - t)) (sym (add-one a))))

  minus_nothing : (a f : F) → a ≡ a ⊕ ⊖ (f ⊗ 𝟘)
  minus_nothing a f = simp ring

  spread : (s f t x : F) → (s ⊕ ⊖ (f ⊗ t)) ⊗ x ≡ s ⊗ x ⊕ ⊖ f ⊗ (t ⊗ x)
  spread s f t x = simp ring

  gather : (a b f t : F) → a ⊕ (b ⊕ ⊖ f ⊗ t) ≡ (a ⊕ b) ⊕ ⊖ (f ⊗ t)
  gather a b f t = simp ring

  module _ (factor : F) (shift count : ℕ) (τ σ σ' : ℕ → F) (S : Subtracted K.ops factor shift count τ σ σ') (rest : (i : ℕ) → count ≤ i → τ i ≡ 𝟘) where
    every : (i : ℕ) → σ' (shift + i) ≡ σ (shift + i) ⊕ ⊖ (factor ⊗ τ i)
    every i = at (dec_lt i count)
      where
        at : Dec (i < count) → σ' (shift + i) ≡ σ (shift + i) ⊕ ⊖ (factor ⊗ τ i)
        at (yes l) = S.inside i l
        at (no d) =
            S.after i (omega arith) ∙ minus_nothing (σ (shift + i)) factor
            ∙ ap (λ (t : F). σ (shift + i) ⊕ ⊖ (factor ⊗ t)) (sym (rest i (omega arith)))

    -- What the subtraction does to a product: below the shift nothing, from there on the multiple of τ's product is subtracted.
    pub convolution_subtracted : (c : ℕ → F) (j : ℕ)
        → convolution K.ops σ' c (shift + j) ≡ sub K.ops (convolution K.ops σ c (shift + j)) (factor ⊗ convolution K.ops τ c j)
    unfolding convolution
    convolution_subtracted c j =
        split σ'
        ∙ ap₂ ◌⊕◌
        (sum_ext K.ops shift (term σ') (term σ) (λ i l. ap (λ (t : F). t ⊗ c (shift + j - i)) (S.before i l)))
        (sum_ext K.ops (suc j) (λ i. term σ' (shift + i)) (λ i. term σ (shift + i) ⊕ ⊖ factor ⊗ (τ i ⊗ c (j - i)))
        (λ i l. ap (λ (t : F). t ⊗ c (shift + j - (shift + i))) (every i)
        ∙ spread (σ (shift + i)) factor (τ i) (c (shift + j - (shift + i)))
        ∙ ap (λ (t : ℕ). term σ (shift + i) ⊕ ⊖ factor ⊗ (τ i ⊗ c t)) (place i))
        ∙ sum_add K (suc j) (λ i. term σ (shift + i)) (λ i. ⊖ factor ⊗ (τ i ⊗ c (j - i)))
        ∙ ap (λ (t : F). sum K.ops (suc j) (λ i. term σ (shift + i)) ⊕ t) (sum_scale K (suc j) (⊖ factor) (λ i. τ i ⊗ c (j - i))))
        ∙ gather (sum K.ops shift (term σ)) (sum K.ops (suc j) (λ i. term σ (shift + i))) factor (sum K.ops (suc j) (λ i. τ i ⊗ c (j - i)))
        ∙ ap (λ (t : F). t ⊕ ⊖ (factor ⊗ sum K.ops (suc j) (λ i. τ i ⊗ c (j - i)))) (sym (split σ))
      where
        term : (ℕ → F) → ℕ → F
        term s i = s i ⊗ c (shift + j - i)

        split : (s : ℕ → F) → sum K.ops (suc (shift + j)) (term s) ≡ sum K.ops shift (term s) ⊕ sum K.ops (suc j) (λ i. term s (shift + i))
        split s = ap (λ (t : ℕ). sum K.ops t (term s)) (sym (nat_add_suc shift j)) ∙ sum_split K shift (suc j) (term s)

        place : (i : ℕ) → shift + j - (shift + i) ≡ j - i
        place i = omega arith

  -- Before the first place: both locators are 1.
  pub located_start : (c σ τ : ℕ → F) → c 0 ≡ 𝟙 → σ 0 ≡ 𝟙 → τ 0 ≡ 𝟙 → ((a : ℕ) → 0 < a → σ a ≡ 𝟘) → ((a : ℕ) → 0 < a → τ a ≡ 𝟘)
      → Located K.ops c 0 0 0 𝟙 σ τ
  unfolding convolution sum
  located_start c σ τ one first former_first short former_short =
      record {
        grown = omega arith;
        placed = omega arith;
        first = first;
        short = short;
        annihilates = λ j l s. absurd (omega arith);
        former_short = λ a l. former_short a (omega arith);
        former_annihilates = λ j l s. absurd (omega arith);
        former_discrepancy = ap (λ (t : F). 𝟙 ⊗ t) (ap₂ (λ (s t : F). 𝟘 ⊕ s ⊗ t) former_first one) ∙ simp ring;
      }

  module _ (c : ℕ → F) (s L p : ℕ) (scale : F) (σ τ : ℕ → F) (located : Located K.ops c s L p scale σ τ) where
    -- The locator annihilates the next place as well.
    pub located_kept : convolution K.ops σ c (suc s) ≡ 𝟘 → Located K.ops c (suc s) L p scale σ τ
    located_kept e =
        record {
          grown = located.grown;
          placed = omega (arith, located.placed);
          first = located.first;
          short = located.short;
          annihilates = λ j l h. at j l h (dec_lt s j);
          former_short = located.former_short;
          former_annihilates = located.former_annihilates;
          former_discrepancy = located.former_discrepancy;
        }
      where
        at : (j : ℕ) → L < j → j ≤ suc s → Dec (s < j) → convolution K.ops σ c j ≡ 𝟘
        at j l h (yes last) = let same : j ≡ suc s = omega arith in ap (convolution K.ops σ c) same ∙ e
        at j l h (no d) = located.annihilates j l (omega arith)

    undo : (δ v t : F) → v ⊗ t ≡ 𝟙 → δ ⊕ ⊖ (δ ⊗ v ⊗ t) ≡ 𝟘
    undo δ v t e = ap (λ (u : F). δ ⊕ ⊖ u) (mul_assoc K δ v t ∙ ap (λ (u : F). δ ⊗ u) e) ∙ simp ring

    nothing : (f : F) → 𝟘 ⊕ ⊖ (f ⊗ 𝟘) ≡ 𝟘
    nothing f = simp ring

    -- It fails there: the former locator's multiple undoes the discrepancy.
    module _ (shift count : ℕ) (σ' : ℕ → F)
        (at_place : shift + p ≡ suc s) (enough : count + L ≡ suc p)
        (S : Subtracted K.ops (convolution K.ops σ c (suc s) ⊗ scale) shift count τ σ σ') where
      rest : (i : ℕ) → count ≤ i → τ i ≡ 𝟘
      rest i l = located.former_short i (omega arith)

      moved : (j : ℕ) → convolution K.ops σ' c (shift + j)
          ≡ sub K.ops (convolution K.ops σ c (shift + j)) (convolution K.ops σ c (suc s) ⊗ scale ⊗ convolution K.ops τ c j)
      moved = convolution_subtracted (convolution K.ops σ c (suc s) ⊗ scale) shift count τ σ σ' S rest c

      module _ (L' : ℕ) (longer : L ≤ L') (reaches : suc s ≤ L + L') where
        corrected_short : (a : ℕ) → L' < a → σ' a ≡ 𝟘
        corrected_short a l = at (dec_lt a shift)
          where
            at : Dec (a < shift) → σ' a ≡ 𝟘
            at (yes h) = S.before a h ∙ located.short a (omega arith)
            at (no d) =
                let place : shift + (a - shift) ≡ a = omega arith in
                let outside : count ≤ a - shift = omega arith in
                ap σ' (sym place) ∙ S.after (a - shift) outside ∙ ap σ place ∙ located.short a (omega arith)

        corrected_annihilates : (j : ℕ) → L' < j → j ≤ suc s → convolution K.ops σ' c j ≡ 𝟘
        corrected_annihilates j l h = at (dec_lt j shift)
          where
            up : (i : ℕ) → shift + i ≡ j → Dec (j ≡ suc s) → convolution K.ops σ' c (shift + i) ≡ 𝟘
            up i e (yes last) =
                let same : i ≡ p = omega arith in
                moved i
                ∙ ap₂ (λ (x y : ℕ). sub K.ops (convolution K.ops σ c x) (convolution K.ops σ c (suc s) ⊗ scale ⊗ convolution K.ops τ c y))
                (e ∙ last) same
                ∙ undo (convolution K.ops σ c (suc s)) scale (convolution K.ops τ c p) located.former_discrepancy
            up i e (no d) =
                moved i
                ∙ ap₂ (λ (x y : F). sub K.ops x (convolution K.ops σ c (suc s) ⊗ scale ⊗ y))
                (ap (convolution K.ops σ c) e ∙ located.annihilates j (omega arith) (omega arith))
                (located.former_annihilates i (omega arith) (omega arith))
                ∙ nothing (convolution K.ops σ c (suc s) ⊗ scale)

            at : Dec (j < shift) → convolution K.ops σ' c j ≡ 𝟘
            at (yes b) =
                convolution_ext K.ops σ' σ c c j (λ i u. S.before i (omega arith)) (λ i u. refl)
                ∙ located.annihilates j (omega arith) (omega (arith, located.placed))
            at (no d) =
                let place : shift + (j - shift) ≡ j = omega arith in ap (convolution K.ops σ' c) (sym place) ∙ up (j - shift) place (ℕ_discrete j (suc s))

      corrected_first : σ' 0 ≡ 𝟙
      corrected_first = S.before 0 (omega (arith, located.placed)) ∙ located.first

      -- The degree stays where it reaches far enough ..
      pub located_corrected : s < L + L → Located K.ops c (suc s) L p scale σ' τ
      located_corrected h =
          record {
            grown = located.grown;
            placed = omega (arith, located.placed);
            first = corrected_first;
            short = corrected_short L (omega arith) (omega arith);
            annihilates = corrected_annihilates L (omega arith) (omega arith);
            former_short = located.former_short;
            former_annihilates = located.former_annihilates;
            former_discrepancy = located.former_discrepancy;
          }

      -- .. and else grows, and the locator so far is the new former one.
      pub located_grown : (scale' : F) → L + L ≤ s → scale' ⊗ convolution K.ops σ c (suc s) ≡ 𝟙
          → Located K.ops c (suc s) (suc s - L) (suc s) scale' σ' σ
      located_grown scale' h e =
          record {
            grown = omega arith;
            placed = omega arith;
            first = corrected_first;
            short = corrected_short (suc s - L) (omega arith) (omega arith);
            annihilates = corrected_annihilates (suc s - L) (omega arith) (omega arith);
            former_short = λ a l. located.short a (omega arith);
            former_annihilates = λ j l u. located.annihilates j (omega arith) (omega arith);
            former_discrepancy = e;
          }
