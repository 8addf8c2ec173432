-- The steps of the locator on numbers below q, carried over from the field of the pairs (number, below q).
-- Holds: `raise` and `fall` (equations up to the field and down again), `up` (a sequence of numbers as one of elements), `sum_down`, `convolution_down`,
-- `tail_down`, `located_up`; the steps `start_below`, `kept_below`, `corrected_below`, `grown_below`;
-- `series_vanishes` (what a locator of degree 0 annihilates).
use mathlib.Core.Path.{◌≡◌, sym, ap, ap₂, subst, ◌∙◌}
use Prim.Native.Nat.{ℕ, suc, ◌+◌, ◌-◌, ◌≤◌, ◌<◌}
use native.Mathlib.Omega.{arith}
use Rattle.algebra.specs.Ops.{Ops, sub}
use Rattle.algebra.specs.Sum.{sum}
use Rattle.algebra.proofs.Laws.{Field, mul_comm}
use Rattle.algebra.proofs.Sums.{sum_ext}
use Rattle.algebra.proofs.Naturality.{sum_natural}
use Rattle.algebra.proofs.Below.{FieldBelow, positive, Element, number, number_injective, element, number_element, field_below, number_keeps}
use Rattle.block.specs.parts.Locator.{convolution, tail, Located, Subtracted}
use Rattle.block.proofs.LocatorStep.{convolution_tail, located_start, located_kept, located_corrected, located_grown}

module _ (q : ℕ) (o : Ops ℕ) (B : FieldBelow q o) where
  abbrev pub K : Field (Element q)
  K = field_below q o B

  -- The element with this number.
  abbrev pub el : ℕ → Element q
  el a = element q (positive B) a

  abbrev pub up : (ℕ → ℕ) → ℕ → Element q
  up f i = el (f i)

  pub down : (a : ℕ) → a < q → number (el a) ≡ a
  down a h = number_element q (positive B) a h

  -- An equation of numbers is one of elements with those numbers, and the other way round.
  pub raise : (x y : Element q) {a b : ℕ} → number x ≡ a → number y ≡ b → a ≡ b → x ≡ y
  raise x y hx hy e = number_injective x y (hx ∙ e ∙ sym hy)

  pub fall : {x y : Element q} {a b : ℕ} → number x ≡ a → number y ≡ b → x ≡ y → a ≡ b
  fall hx hy e = sym hx ∙ ap number e ∙ hy

  pub zero_down : number K.ops.zero ≡ o.zero
  zero_down = (number_keeps q o B).on_zero

  pub one_down : number K.ops.one ≡ o.one
  one_down = (number_keeps q o B).on_one

  pub add_down : (x y : Element q) {a b : ℕ} → number x ≡ a → number y ≡ b → number (K.ops.add x y) ≡ o.add a b
  add_down x y hx hy = (number_keeps q o B).on_add x y ∙ ap₂ o.add hx hy

  pub mul_down : (x y : Element q) {a b : ℕ} → number x ≡ a → number y ≡ b → number (K.ops.mul x y) ≡ o.mul a b
  mul_down x y hx hy = (number_keeps q o B).on_mul x y ∙ ap₂ o.mul hx hy

  pub neg_down : (x : Element q) {a : ℕ} → number x ≡ a → number (K.ops.neg x) ≡ o.neg a
  neg_down x hx = (number_keeps q o B).on_neg x ∙ ap o.neg hx

  pub sum_down : (n : ℕ) (f : ℕ → Element q) (g : ℕ → ℕ) → ((i : ℕ) → i < n → number (f i) ≡ g i) → number (sum K.ops n f) ≡ sum o n g
  sum_down n f g h = sum_natural K.ops o number (number_keeps q o B) n f ∙ sum_ext o n (λ i. number (f i)) g h

  module _ (f g : ℕ → ℕ) (bf : (i : ℕ) → f i < q) (bg : (i : ℕ) → g i < q) where
    pub convolution_down : (j : ℕ) → number (convolution K.ops (up f) (up g) j) ≡ convolution o f g j
    unfolding convolution
    convolution_down j =
        sum_down (suc j) (λ i. K.ops.mul (up f i) (up g (j - i))) (λ i. o.mul (f i) (g (j - i)))
        (λ i l. mul_down (up f i) (up g (j - i)) (down (f i) (bf i)) (down (g (j - i)) (bg (j - i))))

    pub tail_down : (L j : ℕ) → number (tail K.ops L (up f) (up g) j) ≡ tail o L f g j
    unfolding tail
    tail_down L j =
        sum_down L (λ a. K.ops.mul (up f (a + 1)) (up g (j - (a + 1)))) (λ a. o.mul (f (a + 1)) (g (j - (a + 1))))
        (λ a l. mul_down (up f (a + 1)) (up g (j - (a + 1))) (down (f (a + 1)) (bf (a + 1))) (down (g (j - (a + 1))) (bg (j - (a + 1)))))

  module _ (c σ τ : ℕ → ℕ) (scale : ℕ) (bc : (i : ℕ) → c i < q) (bσ : (i : ℕ) → σ i < q) (bτ : (i : ℕ) → τ i < q) (bs : scale < q) where
    pub located_up : {s L p : ℕ} → Located o c s L p scale σ τ → Located K.ops (up c) s L p (el scale) (up σ) (up τ)
    located_up {s} {L} {p} h =
        record {
          grown = h.grown;
          placed = h.placed;
          first = raise _ _ (down (σ 0) (bσ 0)) one_down h.first;
          short = λ a l. raise _ _ (down (σ a) (bσ a)) zero_down (h.short a l);
          annihilates = λ j l u. raise _ _ (convolution_down σ c bσ bc j) zero_down (h.annihilates j l u);
          former_short = λ a l. raise _ _ (down (τ a) (bτ a)) zero_down (h.former_short a l);
          former_annihilates = λ j l u. raise _ _ (convolution_down τ c bτ bc j) zero_down (h.former_annihilates j l u);
          former_discrepancy = raise _ _ (mul_down _ _ (down scale bs) (convolution_down τ c bτ bc p)) one_down h.former_discrepancy;
        }

    located_down : {s L p : ℕ} → Located K.ops (up c) s L p (el scale) (up σ) (up τ) → Located o c s L p scale σ τ
    located_down {s} {L} {p} h =
        record {
          grown = h.grown;
          placed = h.placed;
          first = fall (down (σ 0) (bσ 0)) one_down h.first;
          short = λ a l. fall (down (σ a) (bσ a)) zero_down (h.short a l);
          annihilates = λ j l u. fall (convolution_down σ c bσ bc j) zero_down (h.annihilates j l u);
          former_short = λ a l. fall (down (τ a) (bτ a)) zero_down (h.former_short a l);
          former_annihilates = λ j l u. fall (convolution_down τ c bτ bc j) zero_down (h.former_annihilates j l u);
          former_discrepancy = fall (mul_down _ _ (down scale bs) (convolution_down τ c bτ bc p)) one_down h.former_discrepancy;
        }

    -- What the locator leaves at a place above its length.
    convolution_is_tail : {s L p : ℕ} → Located o c s L p scale σ τ → (j : ℕ) → L ≤ j → convolution o σ c j ≡ o.add (c j) (tail o L σ c j)
    convolution_is_tail {s} {L} {p} h j l =
        fall (convolution_down σ c bσ bc j) (add_down _ _ (down (c j) (bc j)) (tail_down σ c bσ bc L j))
        (convolution_tail K L (up σ) (up c) (located_up h).first (located_up h).short j l)

    -- A locator of degree 0 is 1, and what it annihilates is zero.
    pub series_vanishes : {s p : ℕ} → Located o c s 0 p scale σ τ → (j : ℕ) → 0 < j → j ≤ s → c j ≡ 0
    unfolding tail sum
    series_vanishes h j l u =
        sym (B.plus_zero (c j) (bc j)) ∙ ap (o.add (c j)) (sym B.zero_is) ∙ sym (convolution_is_tail h j (omega arith)) ∙ h.annihilates j l u ∙ B.zero_is

    pub kept_below : {s L p : ℕ} → Located o c s L p scale σ τ → o.add (c (suc s)) (tail o L σ c (suc s)) ≡ o.zero → Located o c (suc s) L p scale σ τ
    kept_below {s} {L} {p} h e =
        located_down (located_kept K (up c) s L p (el scale) (up σ) (up τ) (located_up h)
        (raise _ _ (convolution_down σ c bσ bc (suc s)) zero_down (convolution_is_tail h (suc s) (omega (arith, h.grown, h.placed)) ∙ e)))

  pub start_below : (c σ τ : ℕ → ℕ) → ((i : ℕ) → c i < q) → ((i : ℕ) → σ i < q) → ((i : ℕ) → τ i < q)
      → c 0 ≡ 1 → σ 0 ≡ 1 → τ 0 ≡ 1 → ((a : ℕ) → 0 < a → σ a ≡ 0) → ((a : ℕ) → 0 < a → τ a ≡ 0) → Located o c 0 0 0 1 σ τ
  start_below c σ τ bc bσ bτ first σ-first τ-first σ-short τ-short =
      located_down c σ τ 1 bc bσ bτ B.one_below
      (subst (λ (t : Element q). Located K.ops (up c) 0 0 0 t (up σ) (up τ)) (raise _ _ one_down (down 1 B.one_below) B.one_is)
      (located_start K (up c) (up σ) (up τ) (one (c 0) (bc 0) first) (one (σ 0) (bσ 0) σ-first) (one (τ 0) (bτ 0) τ-first)
      (λ a l. none (σ a) (bσ a) (σ-short a l)) (λ a l. none (τ a) (bτ a) (τ-short a l))))
    where
      one : (a : ℕ) → a < q → a ≡ 1 → el a ≡ K.ops.one
      one a h e = raise _ _ (down a h) one_down (e ∙ sym B.one_is)

      none : (a : ℕ) → a < q → a ≡ 0 → el a ≡ K.ops.zero
      none a h e = raise _ _ (down a h) zero_down (e ∙ sym B.zero_is)

  -- The locator fails by `discrepancy` at the next place, and a multiple of the former one was subtracted.
  module _ (c σ τ σ' : ℕ → ℕ) (scale discrepancy factor shift count : ℕ)
      (bc : (i : ℕ) → c i < q) (bσ : (i : ℕ) → σ i < q) (bτ : (i : ℕ) → τ i < q) (bσ' : (i : ℕ) → σ' i < q)
      (bs : scale < q) (bd : discrepancy < q) (bf : factor < q)
      {s L p : ℕ} (h : Located o c s L p scale σ τ)
      (fails : discrepancy ≡ o.add (c (suc s)) (tail o L σ c (suc s))) (multiplied : factor ≡ o.mul discrepancy scale)
      (at_place : shift + p ≡ suc s) (enough : count + L ≡ suc p)
      (S : Subtracted o factor shift count τ σ σ') where
    product : Element q
    product = K.ops.mul (convolution K.ops (up σ) (up c) (suc s)) (el scale)

    discrepancy_down : number (convolution K.ops (up σ) (up c) (suc s)) ≡ discrepancy
    discrepancy_down =
        convolution_down σ c bσ bc (suc s)
        ∙ convolution_is_tail c σ τ scale bc bσ bτ bs h (suc s) (omega (arith, h.grown, h.placed)) ∙ sym fails

    factor_up : el factor ≡ product
    unfolding product
    factor_up = raise _ _ (down factor bf) (mul_down _ _ discrepancy_down (down scale bs)) multiplied

    difference_down : (x y z : Element q) {a b d : ℕ} → number x ≡ a → number y ≡ b → number z ≡ d
        → number (sub K.ops x (K.ops.mul y z)) ≡ sub o a (o.mul b d)
    difference_down x y z hx hy hz = add_down _ _ hx (neg_down _ (mul_down y z hy hz))

    subtracted_up : Subtracted K.ops product shift count (up τ) (up σ) (up σ')
    subtracted_up =
        subst (λ (t : Element q). Subtracted K.ops t shift count (up τ) (up σ) (up σ')) factor_up
        (record {
          before = λ i l. ap el (S.before i l);
          inside = λ i l. raise _ _ (down (σ' (shift + i)) (bσ' (shift + i)))
              (difference_down _ _ _ (down (σ (shift + i)) (bσ (shift + i))) (down factor bf) (down (τ i) (bτ i))) (S.inside i l);
          after = λ i l. ap el (S.after i l);
        })

    pub corrected_below : s < L + L → Located o c (suc s) L p scale σ' τ
    unfolding product
    corrected_below l =
        located_down c σ' τ scale bc bσ' bτ bs
        (located_corrected K (up c) s L p (el scale) (up σ) (up τ) (located_up c σ τ scale bc bσ bτ bs h) shift count (up σ') at_place enough subtracted_up l)

    pub grown_below : L + L ≤ s → (discrepancy ≡ 0 → ⊥) → Located o c (suc s) (suc s - L) (suc s) (o.inv discrepancy) σ' σ
    unfolding product
    grown_below l nonzero =
        located_down c σ' σ (o.inv discrepancy) bc bσ' bσ (B.inv_below discrepancy bd)
        (located_grown K (up c) s L p (el scale) (up σ) (up τ) (located_up c σ τ scale bc bσ bτ bs h) shift count (up σ') at_place enough subtracted_up
        (el (o.inv discrepancy)) l
        (mul_comm K (el (o.inv discrepancy)) (convolution K.ops (up σ) (up c) (suc s))
        ∙ raise _ _ (mul_down _ _ discrepancy_down (down (o.inv discrepancy) (B.inv_below discrepancy bd))) one_down
        (B.inverse discrepancy bd nonzero ∙ sym B.one_is)))
