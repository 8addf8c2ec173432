-- Totals of numbers, counts of the places at which a test holds, and weights of sequences over a field.
-- Holds: `total_ext`, `total_mono`, `total_most`, `total_add`, `total_scale`, `total_split`, `total_part`, `total_blocks`; `total_short`, `total_run` (terms
-- that are zero outside some places); `count_of_ext`, `one_le`, `count_of_le`, `count_of_mono`, `count_of_without`; `zero_test`, `nonzero_test`,
-- `zero_uncounted`, `weight_short`; `distance_le`, `distance_run`; `total_none`, `total_same`, `total_more` (as a loop adds up).
use mathlib.Core.Path.{◌≡◌, refl, sym, ap, ap₂, subst, ◌∙◌}
use mathlib.Core.Bool.{Bool, true, false, not, ◌&&◌}
use Prim.Native.Nat.{ℕ, zero, suc, ◌+◌, ◌-◌, ◌*◌, ◌≤◌, ◌<◌}
use native.Mathlib.Nat.{add-zero, add-suc, add_assoc, zero-mul, suc-mul, mul-le-mul_left}
use native.Mathlib.Numerals.{add-one}
use native.Mathlib.Omega.{arith}
use native.Mathlib.Decide.{ℕ_discrete, dec_lt, dec_le}
use lib.Dec.{eqb, T}
use borrow.Author.Tests.{eq-eqb, ne_eqb}
use Rattle.algebra.specs.Ops.{pick}
use Rattle.algebra.specs.Weight.{total, count_of, weight, distance}
use Rattle.algebra.proofs.Laws.{Field, Tested, the_zero, non_zero}

pub total_ext : (n : ℕ) (f g : ℕ → ℕ) → ((i : ℕ) → i < n → f i ≡ g i) → total n f ≡ total n g
unfolding total
total_ext zero f g h = refl
total_ext (suc n) f g h = ap₂ ◌+◌ (total_ext n f g (λ i l. h i (omega arith))) (h n (omega arith))

pub total_mono : (n : ℕ) (f g : ℕ → ℕ) → ((i : ℕ) → i < n → f i ≤ g i) → total n f ≤ total n g
unfolding total
total_mono zero f g h = omega arith
total_mono (suc n) f g h = omega (arith, total_mono n f g (λ i l. h i (omega arith)), h n (omega arith))

-- Terms that are at most b each.
pub total_most : (n b : ℕ) (f : ℕ → ℕ) → ((i : ℕ) → i < n → f i ≤ b) → total n f ≤ b * n
unfolding total
total_most zero b f h = omega arith
total_most (suc n) b f h = omega (arith, total_most n b f (λ i l. h i (omega arith)), h n (omega arith))

pub total_add : (n : ℕ) (f g : ℕ → ℕ) → total n (λ i. f i + g i) ≡ total n f + total n g
unfolding total
total_add zero f g = refl
total_add (suc n) f g = omega (arith, total_add n f g)

pub total_scale : (n a : ℕ) (f : ℕ → ℕ) → total n (λ i. a * f i) ≡ a * total n f
unfolding total
total_scale zero a f = omega arith
total_scale (suc n) a f = omega (arith, total_scale n a f)

pub total_split : (n m : ℕ) (f : ℕ → ℕ) → total (n + m) f ≡ total n f + total m (λ i. f (n + i))
unfolding total
total_split n zero f = ap (λ (t : ℕ). total t f) (add-zero n) ∙ sym (add-zero (total n f))
total_split n (suc m) f =
    ap (λ (t : ℕ). total t f) (add-suc n m)
    ∙ (ap (λ (t : ℕ). t + f (n + m)) (total_split n m f) ∙ add_assoc (total n f) (total m (λ i. f (n + i))) (f (n + m)))

-- The first i of n terms add up to no more than all of them.
pub total_part : (f : ℕ → ℕ) (i n : ℕ) → i ≤ n → total i f ≤ total n f
total_part f i n h = let all : i + (n - i) ≡ n = omega arith in omega (arith, total_split i (n - i) f, ap (λ (t : ℕ). total t f) all)

-- A total over m blocks of n terms, block by block.
pub total_blocks : (m n : ℕ) (f : ℕ → ℕ) → total (m * n) f ≡ total m (λ s. total n (λ i. f (s * n + i)))
unfolding total
total_blocks zero n f = ap (λ (t : ℕ). total t f) (zero-mul n)
total_blocks (suc m) n f =
    ap (λ (t : ℕ). total t f) (suc-mul m n) ∙ (total_split (m * n) n f ∙ ap (λ (t : ℕ). t + total n (λ i. f (m * n + i))) (total_blocks m n f))

-- Terms that are at most b each, and zero from r on.
pub total_short : (r n b : ℕ) (f : ℕ → ℕ) → ((i : ℕ) → r ≤ i → i < n → f i ≡ 0) → ((i : ℕ) → i < n → f i ≤ b) → total n f ≤ b * r
unfolding total
total_short r zero b f none most = omega arith
total_short r (suc n) b f none most = at (dec_lt n r) (total_short r n b f (λ i h l. none i h (omega arith)) (λ i l. most i (omega arith)))
  where
    at : Dec (n < r) → total n f ≤ b * r → total n f + f n ≤ b * r
    at (yes l) rest =
        let inside : suc n ≤ r = omega arith in
        omega (arith, total_most (suc n) b f most, mul-le-mul_left b inside)
    at (no d) rest = omega (arith, none n (omega arith) (omega arith))

-- Terms that are at most b each, and zero outside a run of places.
pub total_run : (n start run b : ℕ) (f : ℕ → ℕ) → ((i : ℕ) → i < n → i < start → f i ≡ 0) → ((i : ℕ) → i < n → start + run ≤ i → f i ≡ 0)
    → ((i : ℕ) → i < n → f i ≤ b) → total n f ≤ b * run
total_run n start run b f before after most = at (dec_le start n)
  where
    at : Dec (start ≤ n) → total n f ≤ b * run
    at (yes l) =
        let all : start + (n - start) ≡ n = omega arith in
        omega (
          arith,
          ap (λ (t : ℕ). total t f) all,
          total_split start (n - start) f,
          total_short 0 start b f (λ i h u. before i (omega arith) u) (λ i u. most i (omega arith)),
          total_short run (n - start) b (λ i. f (start + i)) (λ i h u. after (start + i) (omega arith) (omega arith)) (λ i u. most (start + i) (omega arith)),
        )
    at (no d) = omega (arith, total_short 0 n b f (λ i h u. before i u (omega arith)) most)

pub count_of_ext : (n : ℕ) (f g : ℕ → Bool) → ((i : ℕ) → i < n → f i ≡ g i) → count_of n f ≡ count_of n g
count_of_ext n f g h = total_ext n (λ i. pick (f i) 1 0) (λ i. pick (g i) 1 0) (λ i l. ap {B = ℕ} (λ (b : Bool). pick b 1 0) (h i l))

-- What one place adds to a count.
pub one_le : (b : Bool) → pick b 1 0 ≤ 1
one_le true = omega arith
one_le false = omega arith

pub count_of_le : (n : ℕ) (f : ℕ → Bool) → count_of n f ≤ n
unfolding total
count_of_le zero f = omega arith
count_of_le (suc n) f = omega (arith, count_of_le n f, one_le (f n))

step_mono : (a b : Bool) → (a ≡ true → b ≡ true) → pick a 1 0 ≤ pick b 1 0
step_mono true true h = omega arith
step_mono true false h = absurd (subst (λ (b : Bool). T (not b)) (h refl) tt)
step_mono false true h = omega arith
step_mono false false h = omega arith

-- A test that holds wherever another does holds at least as often.
pub count_of_mono : (n : ℕ) (f g : ℕ → Bool) → ((i : ℕ) → i < n → f i ≡ true → g i ≡ true) → count_of n f ≤ count_of n g
count_of_mono n f g h = total_mono n (λ i. pick (f i) 1 0) (λ i. pick (g i) 1 0) (λ i l. step_mono (f i) (g i) (h i l))

-- A place where the test holds adds one to the count without that place.
pub count_of_without : (n p : ℕ) (f : ℕ → Bool) → p < n → f p ≡ true → count_of n f ≡ suc (count_of n (λ i. f i && not (eqb i p)))
unfolding total
count_of_without zero p f l e = absurd (omega arith)
count_of_without (suc n) p f l e = at (ℕ_discrete n p) (λ d. count_of_without n p f d e)
  where
    and_true : (b : Bool) → (b && true) ≡ b
    and_true true = refl
    and_true false = refl

    and_false : (b : Bool) → (b && false) ≡ false
    and_false true = refl
    and_false false = refl

    same : (i : ℕ) → (i ≡ p → ⊥) → f i ≡ (f i && not (eqb i p))
    same i d = sym (ap (λ (b : Bool). f i && not b) (ne_eqb i p d) ∙ and_true (f i))

    at : Dec (n ≡ p) → (p < n → count_of n f ≡ suc (count_of n (λ i. f i && not (eqb i p))))
        → count_of n f + pick (f n) 1 0 ≡ suc (count_of n (λ i. f i && not (eqb i p)) + pick (f n && not (eqb n p)) 1 0)
    at (yes s) rest =
        let here : ◌≡◌ {A = ℕ} (pick (f n) 1 0) 1 = ap {B = ℕ} (λ (b : Bool). pick b 1 0) (ap f s ∙ e) in
        let gone : ◌≡◌ {A = ℕ} (pick (f n && not (eqb n p)) 1 0) 0 =
        ap {B = ℕ} (λ (b : Bool). pick b 1 0) (ap (λ (b : Bool). f n && not b) (eq-eqb n p s) ∙ and_false (f n)) in
        omega (arith, count_of_ext n f (λ i. f i && not (eqb i p)) (λ i h. same i (omega arith)))
    at (no d) rest = omega (arith, rest (omega arith), ap {B = ℕ} (λ (b : Bool). pick b 1 0) (same n d))

module _ {F : Type 0} (K : Field F) where
  open K.ops use {zero as 𝟘}

  -- The zero test at a zero and at a nonzero element.
  pub zero_test : (a : F) → a ≡ 𝟘 → K.ops.is_zero a ≡ true
  zero_test a e = at (K.tested a)
    where
      at : {b : Bool} → Tested 𝟘 a b → b ≡ true
      at (the_zero z) = refl
      at (non_zero h) = absurd (h e)

  pub nonzero_test : (a : F) → (a ≡ 𝟘 → ⊥) → K.ops.is_zero a ≡ false
  nonzero_test a h = at (K.tested a)
    where
      at : {b : Bool} → Tested 𝟘 a b → b ≡ false
      at (the_zero z) = absurd (h z)
      at (non_zero d) = refl

  -- A zero is not counted in a weight.
  pub zero_uncounted : (a : F) → a ≡ 𝟘 → not (K.ops.is_zero a) ≡ true → ⊥
  zero_uncounted a e h = subst (λ (b : Bool). T (not b)) (sym (ap not (zero_test a e)) ∙ h) tt

  -- A sequence that is zero from r on has at most r nonzero terms.
  pub weight_short : (r n : ℕ) (b : ℕ → F) → ((i : ℕ) → r ≤ i → i < n → b i ≡ 𝟘) → weight K.ops n b ≤ r
  weight_short r n b h =
      omega (
        arith,
        total_short r n 1 (λ i. pick (not (K.ops.is_zero (b i))) 1 0)
            (λ i s l. ap {B = ℕ} (λ (t : Bool). pick (not t) 1 0) (zero_test (b i) (h i s l)))
            (λ i l. one_le (not (K.ops.is_zero (b i)))),
      )

-- A count of what each place adds: none yet, one more place that adds nothing, one more that adds v.
module _ (f : ℕ → ℕ) where
  pub total_none : 0 ≡ total 0 f
  unfolding total
  total_none = refl

  pub total_more : (i v : ℕ) → f i ≡ v → total i f + v ≡ total (i + 1) f
  unfolding total
  total_more i v e = ap (λ (t : ℕ). total i f + t) (sym e) ∙ ap (λ (j : ℕ). total j f) (sym (add-one i))

  pub total_same : (i : ℕ) → f i ≡ 0 → total i f ≡ total (i + 1) f
  total_same i e = omega (arith, total_more i 0 e)

-- Sequences differ in no more symbols than they have.
pub distance_le : {r : ℕ} (n : ℕ) (a b : ℕ → ℕ) → r ≡ distance n a b → r ≤ n
distance_le n a b e = subst (λ (t : ℕ). t ≤ n) (sym e) (count_of_le n (λ i. not (eqb (a i) (b i))))

-- Sequences that are the same outside a run of places differ in no more symbols than the run has.
pub distance_run : (n start run : ℕ) (a b : ℕ → ℕ) → ((i : ℕ) → i < n → i < start → a i ≡ b i) → ((i : ℕ) → i < n → start + run ≤ i → a i ≡ b i)
    → distance n a b ≤ run
distance_run n start run a b before after =
    omega (
      arith,
      total_run n start run 1 (λ i. pick (not (eqb (a i) (b i))) 1 0) (λ i l s. same i (before i l s)) (λ i l s. same i (after i l s))
          (λ i l. one_le (not (eqb (a i) (b i)))),
    )
  where
    same : (i : ℕ) → a i ≡ b i → ◌≡◌ {A = ℕ} (pick (not (eqb (a i) (b i))) 1 0) 0
    same i e = ap {B = ℕ} (λ (t : Bool). pick (not t) 1 0) (eq-eqb (a i) (b i) e)
