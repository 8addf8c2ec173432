-- The definitions of the code go through a map that keeps the operations: from the abstract carrier to the numbers below q.
-- Holds: `mapped`; `generator_polynomial_natural`, `row_symbol_natural`, `times_g_natural`, `sent_symbol_natural`, `combination_natural`, `ending_natural`.
use mathlib.Core.Path.{◌≡◌, refl, sym, ap, ap₂, ◌∙◌}
use mathlib.Core.Bool.{Bool, true, false}
use mathlib.Core.List.{List, ◌∷◌, ◌++◌, map, map-append}
use Prim.Native.Nat.{ℕ, zero, suc, ◌-◌, ◌*◌}
use lib.Dec.{leb}
use lib.ListN.{get_or, replicate, get_or-map}
use Rattle.algebra.specs.Ops.{Ops, pick}
use Rattle.algebra.specs.Sum.{power}
use Rattle.algebra.specs.parts.Values.{falling}
use Rattle.algebra.proofs.Sums.{sum_ext}
use Rattle.algebra.proofs.Naturality.{Homomorphism, sum_natural, power_natural, falling_natural, from_roots_natural}
use Rattle.code.specs.Code.{Code}
use Rattle.code.specs.Generator.{points, generator_polynomial, row_symbol, times_g}
use Rattle.code.specs.Transmission.{earlier, sent_symbol}
use Rattle.code.specs.Level.{combination}
use Rattle.code.specs.parts.Recovery.{ending}
use Rattle.code.proofs.Blocks.{times_g_ext}

-- The code with α mapped, over other operations.
abbrev pub mapped : {F G : Type 0} → Code F → Ops G → (F → G) → Code G
mapped c p h = record { ops = p; α = h c.α; n = c.n; k = c.k; m = c.m }

map_replicate : {F G : Type 0} (h : F → G) (n : ℕ) (a : F) → map h (replicate n a) ≡ replicate n (h a)
map_replicate h zero a = refl
map_replicate h (suc n) a = ap (λ t. h a ∷ t) (map_replicate h n a)

module _ {F G : Type 0} (c : Code F) (p : Ops G) (h : F → G) (H : Homomorphism c.ops p h) where
  points_natural : (r : ℕ) → map h (points c.ops c.α r) ≡ points p (h c.α) r
  unfolding points
  points_natural zero = refl
  points_natural (suc r) = ap₂ ◌∷◌ (power_natural c.ops p h H c.α r) (points_natural r)

  pub generator_polynomial_natural : map h (generator_polynomial c) ≡ generator_polynomial (mapped c p h)
  unfolding generator_polynomial
  generator_polynomial_natural =
      from_roots_natural c.ops p h H (points c.ops c.α (c.n - c.k)) ∙ ap (Rattle.algebra.specs.Polynomial.from_roots p) (points_natural (c.n - c.k))

  pub row_symbol_natural : (j r i : ℕ) → h (row_symbol c j r i) ≡ row_symbol (mapped c p h) j r i
  unfolding row_symbol
  row_symbol_natural j r i =
      H.on_mul (get_or (replicate r c.ops.zero ++ generator_polynomial c) i c.ops.zero) (power c.ops c.α (j * c.k * i))
      ∙ ap₂ p.mul
      (sym (get_or-map h (replicate r c.ops.zero ++ generator_polynomial c) i c.ops.zero)
      ∙ ap₂ (λ (l : List G) (z : G). get_or l i z)
      (map-append h (replicate r c.ops.zero) (generator_polynomial c)
      ∙ ap₂ ◌++◌ (map_replicate h r c.ops.zero ∙ ap (replicate r) H.on_zero) generator_polynomial_natural)
      H.on_zero)
      (power_natural c.ops p h H c.α (j * c.k * i))

  pub times_g_natural : (x : ℕ → F) (j i : ℕ) → h (times_g c x j i) ≡ times_g (mapped c p h) (λ r. h (x r)) j i
  unfolding times_g
  times_g_natural x j i =
      sum_natural c.ops p h H c.k (λ r. c.ops.mul (x r) (row_symbol c j r i))
      ∙ sum_ext p c.k (λ r. h (c.ops.mul (x r) (row_symbol c j r i))) (λ r. p.mul (h (x r)) (row_symbol (mapped c p h) j r i))
      (λ r l. H.on_mul (x r) (row_symbol c j r i) ∙ ap (p.mul (h (x r))) (row_symbol_natural j r i))

  earlier_natural : (u : ℕ → ℕ → F) (s j r : ℕ) → h (earlier c.ops u s j r) ≡ earlier p (λ b t. h (u b t)) s j r
  earlier_natural u s j r = at (leb j s)
    where
      at : (b : Bool) → h (pick b (u (s - j) r) c.ops.zero) ≡ pick b (h (u (s - j) r)) p.zero
      at true = refl
      at false = H.on_zero

  pub sent_symbol_natural : (u : ℕ → ℕ → F) (s i : ℕ) → h (sent_symbol c u s i) ≡ sent_symbol (mapped c p h) (λ b r. h (u b r)) s i
  unfolding sent_symbol
  sent_symbol_natural u s i =
      sum_natural c.ops p h H (suc c.m) (λ j. times_g c (earlier c.ops u s j) j i)
      ∙ sum_ext p (suc c.m) (λ j. h (times_g c (earlier c.ops u s j) j i)) (λ j. times_g (mapped c p h) (earlier p (λ b r. h (u b r)) s j) j i)
      (λ j l. times_g_natural (earlier c.ops u s j) j i
      ∙ times_g_ext (mapped c p h) (λ r. h (earlier c.ops u s j r)) (earlier p (λ b r. h (u b r)) s j) j i (λ r q. earlier_natural u s j r))

  pub combination_natural : (l : ℕ) (x : ℕ → ℕ → F) (i : ℕ) → h (combination c l x i) ≡ combination (mapped c p h) l (λ b r. h (x b r)) i
  unfolding combination
  combination_natural l x i =
      sum_natural c.ops p h H (suc l) (λ j. times_g c (x (l - j)) j i)
      ∙ sum_ext p (suc l) (λ j. h (times_g c (x (l - j)) j i)) (λ j. times_g (mapped c p h) (λ r. h (x (l - j) r)) j i)
      (λ j s. times_g_natural (x (l - j)) j i)

  pub ending_natural : (v : ℕ → F) (j : ℕ) → h (ending c v j) ≡ ending (mapped c p h) (λ e. h (v e)) j
  unfolding ending
  ending_natural v j =
      H.on_neg (falling c.ops c.k v (power c.ops (c.ops.inv c.α) j))
      ∙ ap p.neg (falling_natural c.ops p h H c.k v (power c.ops (c.ops.inv c.α) j)
      ∙ ap (falling p c.k (λ e. h (v e))) (power_natural c.ops p h H (c.ops.inv c.α) j ∙ ap (λ t. power p t j) (H.on_inv c.α)))
