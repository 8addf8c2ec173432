-- The laws of a field over the operations `Ops`, flat and unconditional, and the first facts from them.
-- Holds: `Field`, the zero test's meaning `Tested`; in the section over a field: its laws by name, the ruleset `ring`, cancellation.
use mathlib.Core.Path.{◌≡◌, sym, ap, ◌∙◌}
use mathlib.Core.Bool.{Bool, true, false}
use Rattle.algebra.specs.Ops.{Ops, sub}

-- What a zero test's answer says of the element that was tested.
pub data Tested {F : Type 0} (z a : F) : Bool → Type 0 where
  the_zero : a ≡ z → Tested z a true
  non_zero : (a ≡ z → ⊥) → Tested z a false

pub record Field (F : Type 0) : Type 0 where
  pub ops : Ops F
  pub plus_assoc : (a b c : F) → ops.add (ops.add a b) c ≡ ops.add a (ops.add b c)
  pub plus_comm : (a b : F) → ops.add a b ≡ ops.add b a
  pub plus_zero : (a : F) → ops.add a ops.zero ≡ a
  pub plus_neg : (a : F) → ops.add a (ops.neg a) ≡ ops.zero
  pub times_assoc : (a b c : F) → ops.mul (ops.mul a b) c ≡ ops.mul a (ops.mul b c)
  pub times_comm : (a b : F) → ops.mul a b ≡ ops.mul b a
  pub times_one : (a : F) → ops.mul a ops.one ≡ a
  pub distributes : (a b c : F) → ops.mul a (ops.add b c) ≡ ops.add (ops.mul a b) (ops.mul a c)
  pub inverse : (a : F) → (a ≡ ops.zero → ⊥) → ops.mul a (ops.inv a) ≡ ops.one
  pub one_nonzero : ops.one ≡ ops.zero → ⊥
  pub tested : (a : F) → Tested ops.zero a (ops.is_zero a)

module _ {F : Type 0} (K : Field F) where
  infixl 60 ◌⊕◌
  infixl 70 ◌⊗◌
  infix 80 ⊖◌
  open K.ops use {add as ◌⊕◌, mul as ◌⊗◌, neg as ⊖◌, zero as 𝟘, one as 𝟙}

  pub add_assoc : (a b c : F) → (a ⊕ b) ⊕ c ≡ a ⊕ (b ⊕ c)
  add_assoc = K.plus_assoc

  pub add_comm : (a b : F) → a ⊕ b ≡ b ⊕ a
  add_comm = K.plus_comm

  pub add_left_comm : (a b c : F) → a ⊕ (b ⊕ c) ≡ b ⊕ (a ⊕ c)
  add_left_comm a b c = sym (add_assoc a b c) ∙ ap (λ (t : F). t ⊕ c) (add_comm a b) ∙ add_assoc b a c

  pub add-zero : (a : F) → a ⊕ 𝟘 ≡ a
  add-zero = K.plus_zero

  pub zero-add : (a : F) → 𝟘 ⊕ a ≡ a
  zero-add a = add_comm 𝟘 a ∙ add-zero a

  pub mul_assoc : (a b c : F) → (a ⊗ b) ⊗ c ≡ a ⊗ (b ⊗ c)
  mul_assoc = K.times_assoc

  pub mul_comm : (a b : F) → a ⊗ b ≡ b ⊗ a
  mul_comm = K.times_comm

  pub mul_left_comm : (a b c : F) → a ⊗ (b ⊗ c) ≡ b ⊗ (a ⊗ c)
  mul_left_comm a b c = sym (mul_assoc a b c) ∙ ap (λ (t : F). t ⊗ c) (mul_comm a b) ∙ mul_assoc b a c

  pub mul_one : (a : F) → a ⊗ 𝟙 ≡ a
  mul_one = K.times_one

  pub one-mul : (a : F) → 𝟙 ⊗ a ≡ a
  one-mul a = mul_comm 𝟙 a ∙ mul_one a

  pub distrib : (a b c : F) → a ⊗ (b ⊕ c) ≡ a ⊗ b ⊕ a ⊗ c
  distrib = K.distributes

  pub add_neg : (a : F) → a ⊕ ⊖ a ≡ 𝟘
  add_neg = K.plus_neg

  pub add_neg_cancel : (a b : F) → a ⊕ (⊖ a ⊕ b) ≡ b
  add_neg_cancel a b = sym (add_assoc a (⊖ a) b) ∙ ap (λ (t : F). t ⊕ b) (add_neg a) ∙ zero-add b

  -- From a + x = a + y to x = y.
  pub add_cancel : (a x y : F) → a ⊕ x ≡ a ⊕ y → x ≡ y
  add_cancel a x y e = sym (undo x) ∙ ap (λ (t : F). ⊖ a ⊕ t) e ∙ undo y
    where
      undo : (z : F) → ⊖ a ⊕ (a ⊕ z) ≡ z
      undo z = sym (add_assoc (⊖ a) a z) ∙ ap (λ (t : F). t ⊕ z) (add_comm (⊖ a) a ∙ add_neg a) ∙ zero-add z

  pub mul-zero : (a : F) → a ⊗ 𝟘 ≡ 𝟘
  mul-zero a = add_cancel (a ⊗ 𝟘) (a ⊗ 𝟘) 𝟘 (sym (distrib a 𝟘 𝟘) ∙ ap (λ (t : F). a ⊗ t) (add-zero 𝟘) ∙ sym (add-zero (a ⊗ 𝟘)))

  pub zero-mul : (a : F) → 𝟘 ⊗ a ≡ 𝟘
  zero-mul a = mul_comm 𝟘 a ∙ mul-zero a

  -- The negative is the one element that adds to zero.
  pub neg_unique : (a x : F) → a ⊕ x ≡ 𝟘 → x ≡ ⊖ a
  neg_unique a x e = add_cancel a x (⊖ a) (e ∙ sym (add_neg a))

  pub mul_neg : (a b : F) → a ⊗ ⊖ b ≡ ⊖ (a ⊗ b)
  mul_neg a b = neg_unique (a ⊗ b) (a ⊗ ⊖ b) (sym (distrib a b (⊖ b)) ∙ ap (λ (t : F). a ⊗ t) (add_neg b) ∙ mul-zero a)

  pub neg_mul : (a b : F) → ⊖ a ⊗ b ≡ ⊖ (a ⊗ b)
  neg_mul a b = mul_comm (⊖ a) b ∙ mul_neg b a ∙ ap (λ (t : F). ⊖ t) (mul_comm b a)

  pub neg_neg : (a : F) → ⊖ (⊖ a) ≡ a
  neg_neg a = sym (neg_unique (⊖ a) a (add_comm (⊖ a) a ∙ add_neg a))

  pub neg_zero : ⊖ 𝟘 ≡ 𝟘
  neg_zero = sym (neg_unique 𝟘 𝟘 (add-zero 𝟘))

  pub neg_add : (a b : F) → ⊖ (a ⊕ b) ≡ ⊖ a ⊕ ⊖ b
  neg_add a b = sym (neg_unique (a ⊕ b) (⊖ a ⊕ ⊖ b) (simp (add_assoc, add_left_comm b (⊖ a) (⊖ b), add_neg_cancel, add_neg)))

  -- A normaliser for identities of a commutative ring.
  pub ruleset ring = (
    add_assoc,
    add_comm,
    add_left_comm,
    add-zero,
    zero-add,
    mul_assoc,
    mul_comm,
    mul_left_comm,
    mul_one,
    one-mul,
    distrib,
    add_neg,
    add_neg_cancel,
    mul-zero,
    zero-mul,
    mul_neg,
    neg_mul,
    neg_neg,
    neg_zero,
    neg_add,
  )

  -- No two nonzero elements have the product zero.
  pub mul_eq_zero : (a b : F) → (a ≡ 𝟘 → ⊥) → a ⊗ b ≡ 𝟘 → b ≡ 𝟘
  mul_eq_zero a b n e =
      sym (one-mul b) ∙ ap (λ (t : F). t ⊗ b) (sym (K.inverse a n) ∙ mul_comm a (K.ops.inv a))
      ∙ mul_assoc (K.ops.inv a) a b ∙ ap (λ (t : F). K.ops.inv a ⊗ t) e ∙ mul-zero (K.ops.inv a)

  -- a - b = 0 says a = b, and the other way round.
  pub sub_self : (a : F) → sub K.ops a a ≡ 𝟘
  sub_self = add_neg

  pub eq_of_sub : (a b : F) → sub K.ops a b ≡ 𝟘 → a ≡ b
  eq_of_sub a b e = sym (add-zero a) ∙ ap (λ (t : F). a ⊕ t) (sym (add_neg b) ∙ add_comm b (⊖ b)) ∙ sym (add_assoc a (⊖ b) b) ∙ ap (λ (t : F). t ⊕ b) e
      ∙ zero-add b

  -- From a - b = d to a = b + d; subtracting a sum.
  pub add_of_sub : (a b d : F) → a ⊕ ⊖ b ≡ d → a ≡ b ⊕ d
  add_of_sub a b d e = sym (ap (λ (t : F). b ⊕ t) (sym e) ∙ (add_left_comm b a (⊖ b) ∙ ap (λ (t : F). a ⊕ t) (add_neg b) ∙ add-zero a))

  pub sub_add : (a b d : F) → a ⊕ ⊖ (b ⊕ d) ≡ (a ⊕ ⊖ b) ⊕ ⊖ d
  sub_add a b d = ap (λ (t : F). a ⊕ t) (neg_add b d) ∙ sym (add_assoc a (⊖ b) (⊖ d))

  pub sub_sub : (a b : F) → a ⊕ ⊖ (a ⊕ ⊖ b) ≡ b
  sub_sub a b = sub_add a a (⊖ b) ∙ (ap (λ (t : F). t ⊕ ⊖ (⊖ b)) (add_neg a) ∙ (zero-add (⊖ (⊖ b)) ∙ neg_neg b))
