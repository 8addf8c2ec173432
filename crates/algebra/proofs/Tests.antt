-- Facts about every number below q by one computed test: the checker runs the test over all of them, a lemma turns it into the fact.
-- Holds: `and_left`, `and_right`; the test `all`; `all_at`, what it says at each number; `same`, `same_pairs`, `same_triples`, equations in one, two and three
-- variables; `within`, a bound; `false_not_true`.
use mathlib.Core.Path.{◌≡◌, refl, subst, sym}
use mathlib.Core.Bool.{Bool, true, false, not, ◌&&◌}
use Prim.Native.Nat.{ℕ, zero, suc, ◌<◌}
use native.Mathlib.Nat.{not-suc-le-zero}
use native.Mathlib.Omega.{arith}
use lib.Dec.{T, eqb, eqb→eq, ltb, ltb→lt}
use borrow.Author.Tests.{eqb-true, eqb-false}

pub false_not_true : false ≡ true → ⊥
false_not_true e = subst (λ (b : Bool). T (not b)) e tt

pub and_left : (a b : Bool) → T (a && b) → T a
and_left true b t = tt
and_left false b t = t

pub and_right : (a b : Bool) → T (a && b) → T b
and_right true b t = t
and_right false b t = absurd t

-- The test passes at each number below n.
unfoldable pub all : ℕ → (ℕ → Bool) → Bool
all zero test = true
all (suc n) test = test n && all n test

pub all_at : (n : ℕ) (test : ℕ → Bool) → T (all n test) → (a : ℕ) → a < n → T (test a)
unfolding all
all_at zero test t a h = absurd (not-suc-le-zero h)
all_at (suc n) test t a h = decide (all_at n test (and_right (test n) (all n test) t)) (eqb a n) refl
  where
    decide : ((b : ℕ) → b < n → T (test b)) → (b : Bool) → eqb a n ≡ b → T (test a)
    decide lower true e = subst (λ (k : ℕ). T (test k)) (sym (eqb-true a n e)) (and_left (test n) (all n test) t)
    decide lower false e = let apart : a ≡ n → ⊥ = eqb-false a n e in lower a (omega arith)

pub same : (n : ℕ) (f g : ℕ → ℕ) → T (all n (λ a. eqb (f a) (g a))) → (a : ℕ) → a < n → f a ≡ g a
same n f g t a h = eqb→eq (f a) (g a) (all_at n (λ a. eqb (f a) (g a)) t a h)

pub same_pairs : (n : ℕ) (f g : ℕ → ℕ → ℕ) → T (all n (λ a. all n (λ b. eqb (f a b) (g a b))))
    → (a b : ℕ) → a < n → b < n → f a b ≡ g a b
same_pairs n f g t a b ha hb = same n (f a) (g a) (all_at n (λ a. all n (λ b. eqb (f a b) (g a b))) t a ha) b hb

pub same_triples : (n : ℕ) (f g : ℕ → ℕ → ℕ → ℕ) → T (all n (λ a. all n (λ b. all n (λ c. eqb (f a b c) (g a b c)))))
    → (a b c : ℕ) → a < n → b < n → c < n → f a b c ≡ g a b c
same_triples n f g t a b c ha hb hc =
    same_pairs n (f a) (g a) (all_at n (λ a. all n (λ b. all n (λ c. eqb (f a b c) (g a b c)))) t a ha) b c hb hc

pub within : (n m : ℕ) (f : ℕ → ℕ) → T (all n (λ a. ltb (f a) m)) → (a : ℕ) → a < n → f a < m
within n m f t a h = ltb→lt (f a) m (all_at n (λ a. ltb (f a) m) t a h)
