-- Lists of symbols: parts, joins and stores keep every element below q.
-- Holds: `symbol_below`, `symbols_take`, `symbols_drop`, `symbols_part`, `symbols_append`,
-- `symbols_none`, `symbols_more`, `symbols_set`, `symbols_zeros`, `put_symbols` (another part in its place);
-- of sequences: `below_set`, `all_symbols`.
use mathlib.Core.Path.{◌≡◌, refl, sym, ap, ◌∙◌, subst}
use mathlib.Core.Bool.{Bool, true, false}
use mathlib.Core.List.{List, [], ◌∷◌, ◌++◌}
use Prim.Native.Nat.{ℕ, zero, suc, ◌+◌, ◌-◌, ◌<◌, ◌≤◌, min}
use native.Mathlib.Nat.{le_of_suc-le-suc, not-suc-le-zero}
use native.Mathlib.Omega.{arith}
use native.Mathlib.Decide.{ℕ_discrete, dec_lt}
use lib.Dec.{eqb, ltb}
use lib.ListN.{length, get_or, take, drop, set, replicate, length-append, length-take, length-drop, length-set, length-replicate, get_or-replicate}
use lib.ListN.{get_or-eq_default, get_or-append}
use lib.Seq.{get_or-take, get_or-drop, get_or-append-add, get_or-set_same, get_or-set_other, set_out}
use borrow.Author.Tests.{ltb-true, ltb-false, eqb-true, eqb-false}
use borrow.Rule.Slice.PartMut.{put_mid}
use Rattle.field.specs.Symbols.{Symbols}
use Rattle.field.specs.parts.Sequences.{AllBelow}

module _ (q : ℕ) where
  below_of : {a b : ℕ} → a ≡ b → b < q → a < q
  below_of e h = subst (λ (x : ℕ). x < q) (sym e) h

  -- What stands at any place of a list of symbols, and past its end, is below q.
  pub symbol_below : (l : List ℕ) → Symbols q l → 0 < q → (i : ℕ) → get_or l i 0 < q
  symbol_below l s positive i = decide (ltb i (length l)) refl
    where
      decide : (t : Bool) → ltb i (length l) ≡ t → get_or l i 0 < q
      decide true e = s.below i (ltb-true i (length l) e)
      decide false e = below_of (get_or-eq_default l 0 (ltb-false i (length l) e)) positive

  pub symbols_take : (k : ℕ) (l : List ℕ) → Symbols q l → Symbols q (take k l)
  symbols_take k l s = record { below = at }
    where
      at : (i : ℕ) → i < length (take k l) → get_or (take k l) i 0 < q
      at i h =
          let within : i < min k (length l) = subst (λ (n : ℕ). i < n) (length-take k l) h in
          below_of (get_or-take k l i 0 (omega arith)) (s.below i (omega arith))

  pub symbols_drop : (k : ℕ) (l : List ℕ) → Symbols q l → Symbols q (drop k l)
  symbols_drop k l s = record { below = at }
    where
      at : (i : ℕ) → i < length (drop k l) → get_or (drop k l) i 0 < q
      at i h =
          let within : i < length l - k = subst (λ (n : ℕ). i < n) (length-drop k l) h in
          below_of (get_or-drop k l i 0) (s.below (k + i) (omega arith))

  -- The part from a up to e, as code makes it.
  pub symbols_part : (a e : ℕ) (l : List ℕ) → Symbols q l → Symbols q (take (e - a) (drop a l))
  symbols_part a e l s = symbols_take (e - a) (drop a l) (symbols_drop a l s)

  pub symbols_append : (l r : List ℕ) → Symbols q l → Symbols q r → Symbols q (l ++ r)
  symbols_append l r s t = record { below = at }
    where
      at : (i : ℕ) → i < length (l ++ r) → get_or (l ++ r) i 0 < q
      at i h = decide (ltb i (length l)) refl
        where
          total : i < length l + length r
          total = subst (λ (n : ℕ). i < n) (length-append l r) h

          decide : (b : Bool) → ltb i (length l) ≡ b → get_or (l ++ r) i 0 < q
          decide true e = let left : i < length l = ltb-true i (length l) e in below_of (get_or-append l r 0 i left) (s.below i left)
          decide false e =
              let right : length l ≤ i = ltb-false i (length l) e in
              let place : i ≡ length l + (i - length l) = omega arith in
              below_of (ap (λ (k : ℕ). get_or (l ++ r) k 0) place ∙ get_or-append-add l r (i - length l) 0)
              (t.below (i - length l) (omega (arith, total)))

  pub symbols_none : Symbols q []
  symbols_none = record { below = λ i h. absurd (not-suc-le-zero h) }

  pub symbols_more : (a : ℕ) (l : List ℕ) → a < q → Symbols q l → Symbols q (a ∷ l)
  symbols_more a l h s = record { below = at }
    where
      at : (i : ℕ) → i < length (a ∷ l) → get_or (a ∷ l) i 0 < q
      at zero g = h
      at (suc i) g = s.below i (le_of_suc-le-suc g)

  pub symbols_set : (l : List ℕ) (j a : ℕ) → a < q → Symbols q l → Symbols q (set l j a)
  symbols_set l j a h s = record { below = at }
    where
      at : (i : ℕ) → i < length (set l j a) → get_or (set l j a) i 0 < q
      at i g = decide (eqb i j) refl
        where
          within : i < length l
          within = subst (λ (n : ℕ). i < n) (length-set l j a) g

          decide : (b : Bool) → eqb i j ≡ b → get_or (set l j a) i 0 < q
          decide true e =
              let same : i ≡ j = eqb-true i j e in
              below_of (ap (λ (k : ℕ). get_or (set l j a) k 0) same ∙ get_or-set_same l j a 0 (subst (λ (k : ℕ). k < length l) same within)) h
          decide false e = below_of (get_or-set_other l j i a 0 (eqb-false i j e)) (s.below i within)

  pub symbols_zeros : (n : ℕ) → 0 < q → Symbols q (replicate n 0)
  symbols_zeros n positive = record { below = at }
    where
      at : (i : ℕ) → i < length (replicate {A = ℕ} n 0) → get_or (replicate n 0) i 0 < q
      at i h = below_of (get_or-replicate n i 0 0 (subst (λ (k : ℕ). i < k) (length-replicate n 0) h)) positive

-- The whole with another part ys in the place of the k elements from a on.
pub put_symbols : (a k : ℕ) (xs ys : List ℕ) (q : ℕ) → Symbols q xs → Symbols q ys → Symbols q (put_mid a k xs ys)
put_symbols a k xs ys q X Y =
    symbols_append q (take a xs) (ys ++ drop k (drop a xs)) (symbols_take q a xs X)
    (symbols_append q ys (drop k (drop a xs)) Y (symbols_drop q k (drop a xs) (symbols_drop q a xs X)))

-- The symbols of an area after a store are below q.
pub below_set : (q : ℕ) (l : List ℕ) (i v : ℕ) → AllBelow q l → v < q → AllBelow q (set l i v)
below_set q l i v h b j = at (ℕ_discrete j i) (dec_lt i (length l))
  where
    at : Dec (j ≡ i) → Dec (i < length l) → get_or (set l i v) j 0 < q
    at (yes e) (yes s) = subst (λ (t : ℕ). t < q) (sym (ap (λ (t : ℕ). get_or (set l i v) t 0) e ∙ get_or-set_same l i v 0 s)) b
    at (yes e) (no d) =
        let past : length l < suc i = omega arith in
        subst (λ (t : List ℕ). get_or t j 0 < q) (sym (set_out l i v (omega arith))) (h j)
    at (no d) s = subst (λ (t : ℕ). t < q) (sym (get_or-set_other l i j v 0 d)) (h j)

-- Symbols, all of them below q.
pub all_symbols : {q : ℕ} {l : List ℕ} → AllBelow q l → Symbols q l
all_symbols a = record { below = λ i h. a i }
