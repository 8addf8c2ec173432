-- Every definition of `specs/` goes through a map that keeps the operations: what is computed and then mapped is what is computed from the mapped.
-- Holds: `Homomorphism`, and a lemma for each definition: `sum_natural`, `power_natural`, `value_of_natural`, `falling_natural`, `from_roots_natural`.
use mathlib.Core.Path.{◌≡◌, refl, ap, ap₂, ◌∙◌}
use mathlib.Core.List.{List, [], ◌∷◌, map}
use Prim.Native.Nat.{ℕ, zero, suc}
use Rattle.algebra.specs.Ops.{Ops}
use Rattle.algebra.specs.Sum.{sum, power}
use Rattle.algebra.specs.Polynomial.{times_root, times_root_after, from_roots}
use Rattle.algebra.specs.parts.Values.{value_of, falling}

-- A map that keeps the operations.
pub record Homomorphism {F G : Type 0} (o : Ops F) (p : Ops G) (h : F → G) : Type 0 where
  pub on_zero : h o.zero ≡ p.zero
  pub on_one : h o.one ≡ p.one
  pub on_add : (a b : F) → h (o.add a b) ≡ p.add (h a) (h b)
  pub on_neg : (a : F) → h (o.neg a) ≡ p.neg (h a)
  pub on_mul : (a b : F) → h (o.mul a b) ≡ p.mul (h a) (h b)
  pub on_inv : (a : F) → h (o.inv a) ≡ p.inv (h a)
  pub on_test : (a : F) → o.is_zero a ≡ p.is_zero (h a)

module _ {F G : Type 0} (o : Ops F) (p : Ops G) (h : F → G) (H : Homomorphism o p h) where
  pub sum_natural : (n : ℕ) (f : ℕ → F) → h (sum o n f) ≡ sum p n (λ i. h (f i))
  unfolding sum
  sum_natural zero f = H.on_zero
  sum_natural (suc n) f = H.on_add (sum o n f) (f n) ∙ ap (λ t. p.add t (h (f n))) (sum_natural n f)

  pub power_natural : (a : F) (i : ℕ) → h (power o a i) ≡ power p (h a) i
  unfolding power
  power_natural a zero = H.on_one
  power_natural a (suc i) = H.on_mul a (power o a i) ∙ ap (p.mul (h a)) (power_natural a i)

  pub value_of_natural : (n : ℕ) (c : ℕ → F) (x : F) → h (value_of o n c x) ≡ value_of p n (λ i. h (c i)) (h x)
  unfolding value_of
  value_of_natural zero c x = H.on_zero
  value_of_natural (suc n) c x =
      H.on_add (c 0) (o.mul x (value_of o n (λ i. c (suc i)) x))
      ∙ ap (p.add (h (c 0))) (H.on_mul x (value_of o n (λ i. c (suc i)) x) ∙ ap (p.mul (h x)) (value_of_natural n (λ i. c (suc i)) x))

  pub falling_natural : (n : ℕ) (v : ℕ → F) (x : F) → h (falling o n v x) ≡ falling p n (λ i. h (v i)) (h x)
  unfolding falling
  falling_natural zero v x = H.on_zero
  falling_natural (suc n) v x =
      H.on_mul (o.add (falling o n v x) (v n)) x
      ∙ ap (λ t. p.mul t (h x)) (H.on_add (falling o n v x) (v n) ∙ ap (λ t. p.add t (h (v n))) (falling_natural n v x))

  times_root_after_natural : (c : List F) (a b : F) → map h (times_root_after o a b c) ≡ times_root_after p (h a) (h b) (map h c)
  unfolding times_root_after
  times_root_after_natural [] a b = refl
  times_root_after_natural (x ∷ c) a b =
      ap₂ ◌∷◌ (H.on_add b (o.neg (o.mul a x)) ∙ ap (p.add (h b)) (H.on_neg (o.mul a x) ∙ ap p.neg (H.on_mul a x))) (times_root_after_natural c a x)

  pub times_root_natural : (c : List F) (a : F) → map h (times_root o a c) ≡ times_root p (h a) (map h c)
  times_root_natural c a = times_root_after_natural c a o.zero ∙ ap (λ t. times_root_after p (h a) t (map h c)) H.on_zero

  pub from_roots_natural : (roots : List F) → map h (from_roots o roots) ≡ from_roots p (map h roots)
  unfolding from_roots
  from_roots_natural [] = ap (λ t. t ∷ []) H.on_one
  from_roots_natural (a ∷ roots) = times_root_natural (from_roots o roots) a ∙ ap (times_root p (h a)) (from_roots_natural roots)
