-- The search for an inverse finds one wherever there is one, and 0 where there is none.
-- Holds: `inverse_found`, `inverse_below_lem`, `inverse_none`.
use mathlib.Core.Path.{◌≡◌, refl, sym, ap, ◌∙◌}
use mathlib.Core.Bool.{Bool, true, false}
use Prim.Native.Nat.{ℕ, zero, suc, ◌<◌}
use native.Mathlib.Nat.{not-suc-le-zero}
use native.Mathlib.Omega.{arith}
use lib.Dec.{eqb}
use borrow.Author.Tests.{eqb-true, eqb-false, ne_eqb}
use Rattle.algebra.specs.Ops.{pick}
use Rattle.field.specs.Numbers.{inverse_below}

module _ (product : ℕ → ℕ → ℕ) where
  pub inverse_found : (n a b : ℕ) → b < n → product a b ≡ 1 → product a (inverse_below product n a) ≡ 1
  unfolding inverse_below
  inverse_found zero a b h e = absurd (not-suc-le-zero h)
  inverse_found (suc n) a b h e = decide (λ l. inverse_found n a b l e) (eqb (product a n) 1) refl
    where
      decide : (b < n → product a (inverse_below product n a) ≡ 1) → (t : Bool) → eqb (product a n) 1 ≡ t
          → product a (pick t n (inverse_below product n a)) ≡ 1
      decide lower true t = eqb-true (product a n) 1 t
      decide lower false t =
          let other : b ≡ n → ⊥ = λ (s : b ≡ n). eqb-false (product a n) 1 t (ap (product a) (sym s) ∙ e) in
          lower (omega arith)

  pub inverse_below_lem : (n a : ℕ) → 0 < n → inverse_below product n a < n
  unfolding inverse_below
  inverse_below_lem zero a h = h
  inverse_below_lem (suc zero) a h = at_one (eqb (product a 0) 1)
    where
      at_one : (t : Bool) → pick t 0 0 < 1
      at_one true = h
      at_one false = h
  inverse_below_lem (suc (suc n)) a h = decide (inverse_below_lem (suc n) a (omega arith)) (eqb (product a (suc n)) 1)
    where
      decide : inverse_below product (suc n) a < suc n → (t : Bool) → pick t (suc n) (inverse_below product (suc n) a) < suc (suc n)
      decide lower true = omega arith
      decide lower false = omega arith

  -- Where no product is 1, nothing is found.
  pub inverse_none : (n a : ℕ) → ((b : ℕ) → b < n → product a b ≡ 1 → ⊥) → inverse_below product n a ≡ 0
  unfolding inverse_below
  inverse_none zero a never = refl
  inverse_none (suc n) a never = rw (ne_eqb (product a n) 1 (never n (omega arith))) (inverse_none n a (λ b h. never b (omega arith)))
