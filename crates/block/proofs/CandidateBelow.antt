-- The same on the numbers below q, as the code has it: if the information x is near, it is the information that was read.
-- Holds: `recovered_more`, `degree_of_near_below`, `read_of_near`.
use mathlib.Core.Path.{◌≡◌, sym, ap, subst, ◌∙◌}
use mathlib.Core.Bool.{Bool, not}
use mathlib.Core.List.{List, [], ◌∷◌}
use Prim.Native.Nat.{ℕ, zero, suc, ◌+◌, ◌-◌, ◌*◌, ◌≤◌, ◌<◌}
use native.Mathlib.Numerals.{add-one}
use native.Mathlib.Omega.{arith}
use native.Mathlib.Decide.{ℕ_discrete, dec_lt}
use lib.ListN.{length}
use Rattle.algebra.specs.Ops.{Ops, sub, pick}
use Rattle.algebra.specs.Sum.{power}
use Rattle.algebra.specs.Weight.{count_of, weight}
use Rattle.algebra.proofs.Laws.{sub_self}
use Rattle.algebra.proofs.Weights.{total_mono, total_add, total_scale, one_le, zero_test}
use Rattle.algebra.proofs.Naturality.{power_natural}
use Rattle.algebra.proofs.Below.{FieldBelow, Element, number}
use Rattle.area.specs.Lists.{view}
use Rattle.field.specs.Fields.{ops_of, alpha}
use Rattle.field.specs.Symbols.{Symbols, is_unknown}
use Rattle.field.specs.parts.Sequences.{at}
use Rattle.field.proofs.Symbols.{all_symbols}
use Rattle.code.specs.declared.Setting.{Setting}
use Rattle.code.specs.Code.{Code, level_distance}
use Rattle.code.specs.Generator.{times_g}
use Rattle.code.specs.Level.{combination}
use Rattle.code.specs.parts.Recovery.{ending, Recovered}
use Rattle.code.specs.parts.Cost.{symbol_cost, block_cost, level_cost}
use Rattle.code.specs.Settings.{code_of}
use Rattle.code.specs.parts.Sound.{Sound}
use Rattle.code.proofs.Cost.{unknown_byte, known_byte, cost_unknown, cost_differ}
use Rattle.code.proofs.Recovery.{recovered_step}
use Rattle.code.proofs.CodeBelow.{laws, field_of, root_of, order_at, over_field, lifted, times_g_number, combination_number, ending_number, received}
use Rattle.code.proofs.CodeBelow.{received_number, value_number, keeps, root_number}
use Rattle.code.proofs.Settings.{level_fits, information_fits}
use Rattle.block.specs.declared.TheConstants.{PLACES}
use Rattle.block.specs.declared.locator.Locator.{Locator}
use Rattle.block.specs.declared.spectrum.Spectrum.{Spectrum}
use Rattle.block.specs.parts.Locator.{Located, Extended}
use Rattle.block.specs.parts.Spectrum.{SpectrumOf}
use Rattle.block.specs.parts.Factors.{times_factor, times_factors, unknown_places, Filled}
use Rattle.block.specs.parts.Candidate.{syndromes_at, Begun, Candidate}
use Rattle.block.specs.parts.Step.{InformationTo}
use Rattle.block.proofs.LocatorBelow.{K, el, up, down, raise, fall, add_down, mul_down, neg_down, tail_down, located_up}
use Rattle.block.proofs.ErrorSpectrum.{spectrum as spectrum_of}
use Rattle.block.proofs.Factors.{length_places}
use Rattle.block.proofs.Thinning.{thinned, thinned_zero, thinned_unknown}
use Rattle.block.proofs.Candidate.{degree_of_near, information_of_near}

module _ (p : Setting) (S : Sound p) where
  abbrev q : ℕ
  q = p.q

  abbrev o : Ops ℕ
  o = ops_of p.q

  abbrev B : FieldBelow q o
  B = laws p S

  abbrev over : Code (Element q)
  over = over_field p S

  module _ (v : ℕ → ℕ) (v_below : (e : ℕ) → v e < q) where
    recovered_up : (j : ℕ) (x : ℕ → ℕ) → ((r : ℕ) → x r < q) → Recovered (code_of p) v j x → Recovered over (up q o B v) j (up q o B x)
    recovered_up j x below h =
        record { symbol = λ a l. raise q o B _ _ (times_g_number p S x below 0 (p.n - suc a)) (ending_number p S v v_below (suc a)) (h.symbol a l) }

    -- One symbol more.
    pub recovered_more : (j : ℕ) (x y : ℕ → ℕ) → ((r : ℕ) → x r < q) → ((r : ℕ) → y r < q) → j < p.k → Recovered (code_of p) v j x
        → ((r : ℕ) → r < p.k → (r ≡ p.k - suc j → ⊥) → y r ≡ x r)
        → y (p.k - suc j) ≡ o.add (x (p.k - suc j)) (sub o (ending (code_of p) v (suc j)) (times_g (code_of p) x 0 (p.n - suc j)))
        → Recovered (code_of p) v (suc j) y
    recovered_more j x y x_below y_below l h same new =
        record { symbol = λ a s. fall q o B (times_g_number p S y y_below 0 (p.n - suc a)) (ending_number p S v v_below (suc a)) (above.symbol a s) }
      where
        above : Recovered over (up q o B v) (suc j) (up q o B y)
        above =
            recovered_step (field_of p S) (root_of p S) p.n p.k p.m (up q o B v) (up q o B x) (up q o B y) j l (information_fits p S)
            (recovered_up j x x_below h)
            (λ r s d. ap (el q o B) (same r s d))
            (raise q o B _ _ (down q o B (y (p.k - suc j)) (y_below (p.k - suc j)))
            (add_down q o B _ _ (down q o B (x (p.k - suc j)) (x_below (p.k - suc j)))
            (add_down q o B _ _ (ending_number p S v v_below (suc j)) (neg_down q o B _ (times_g_number p S x x_below 0 (p.n - suc j))))) new)

  extended_up : (L r m : ℕ) (σ c d values : ℕ → ℕ) → ((i : ℕ) → σ i < q) → ((i : ℕ) → c i < q) → ((i : ℕ) → d i < q) → ((i : ℕ) → values i < q)
      → Extended o L r m σ c d values → Extended (K q o B).ops L r m (up q o B σ) (up q o B c) (up q o B d) (up q o B values)
  extended_up L r m σ c d values bσ bc bd bv h =
      record {
        kept = λ j l. ap (el q o B) (h.kept j l);
        recurs = λ u l. raise q o B _ _ (down q o B (d (r + 1 + u)) (bd (r + 1 + u))) (neg_down q o B _ (tail_down q o B σ d bσ bd L (r + 1 + u)))
            (h.recurs u l);
        difference = λ u l. raise q o B _ _ (down q o B (values u) (bv u))
            (add_down q o B _ _ (down q o B (c (r + 1 + u)) (bc (r + 1 + u))) (tail_down q o B σ d bσ bd L (r + 1 + u))) (h.difference u l);
      }

  factors_down : (f : ℕ → ℕ) → ((i : ℕ) → f i < q) → (places : List ℕ) (j : ℕ)
      → number (times_factors (K q o B).ops (root_of p S) places (up q o B f) j) ≡ times_factors o alpha places f j
  unfolding times_factors times_factor
  factors_down f below [] j = down q o B (f j) (below j)
  factors_down f below (i ∷ places) zero = factors_down f below places zero
  factors_down f below (i ∷ places) (suc j) =
      add_down q o B _ _ (factors_down f below places (suc j))
      (neg_down q o B _ (mul_down q o B _ _
      (power_natural (K q o B).ops o number (keeps p S) (root_of p S) i ∙ ap (λ (a : ℕ). power o a i) (root_number p S))
      (factors_down f below places j)))

  -- A received block, and its symbols.
  module _ (room : p.n < PLACES) {l : ℕ} (level : l ≤ p.m) {block symbols : List ℕ} (whole : length block ≡ p.n) (long : length symbols ≡ p.n)
      (filled : Filled q block symbols) where
    fits : (l + 1) * p.k ≤ p.n
    fits = level_fits p S l level

    abbrev places : List ℕ
    places = unknown_places q block

    symbols_below : Symbols q symbols
    symbols_below = all_symbols filled.below

    module _ (x : ℕ → ℕ → ℕ) (information : InformationTo p l x) where
      error : ℕ → Element q
      error i = sub (K q o B).ops (received p S symbols i) (combination over l (lifted p S x) i)

      thin : ℕ → Element q
      thin = thinned (field_of p S) p.n (root_of p S) (order_at p S) places error

      counted : ℕ → ℕ
      counted i = pick (not ((K q o B).ops.is_zero (thin i))) 1 0

      counted_most : (i : ℕ) → counted i ≤ 1
      unfolding counted
      counted_most i = one_le (not ((K q o B).ops.is_zero (thin i)))

      uncounted : (i : ℕ) → thin i ≡ (K q o B).ops.zero → counted i ≡ 0
      unfolding counted
      uncounted i z = ap {B = ℕ} (λ (t : Bool). pick (not t) 1 0) (zero_test (K q o B) (thin i) z)

      error_zero : (i : ℕ) → i < p.n → at block i < q → at block i ≡ combination (code_of p) l x i → error i ≡ (K q o B).ops.zero
      unfolding error
      error_zero i h k e =
          let same : received p S symbols i ≡ combination over l (lifted p S x) i =
          raise q o B _ _
          (received_number p S symbols symbols_below i ∙ filled.same i (omega (arith, whole)) ∙ ap (λ (t : Bool). pick t 0 (at block i)) (known_byte k))
          (combination_number p S x l i information) e in
          ap (λ (t : Element q). sub (K q o B).ops t (combination over l (lifted p S x) i)) same ∙ sub_self (K q o B) (combination over l (lifted p S x) i)

      -- A symbol costs two where the thinned error is not zero, and one where it is unknown: there the thinned error is zero.
      symbol_pays : (i : ℕ) → i < p.n → 2 * counted i + pick (is_unknown q (at block i)) 1 0 ≤ symbol_cost q (at block i) (combination (code_of p) l x i)
      unfolding thin
      symbol_pays i h = by_byte (dec_lt (at block i) q)
        where
          one : (t : Bool) → {b : Bool} → t ≡ b → ◌≡◌ {A = ℕ} (pick t 1 0) (pick b 1 0)
          one t e = ap {B = ℕ} (λ (b : Bool). pick b 1 0) e

          by_symbol : at block i < q → Dec (at block i ≡ combination (code_of p) l x i)
              → 2 * counted i + pick (is_unknown q (at block i)) 1 0 ≤ symbol_cost q (at block i) (combination (code_of p) l x i)
          by_symbol k (yes e) =
              let zero = thinned_zero (field_of p S) p.n (root_of p S) (order_at p S) places error i (error_zero i h k e) in
              omega (arith, one _ (known_byte k), uncounted i zero)
          by_symbol k (no d) = omega (arith, one _ (known_byte k), cost_differ q (at block i) (combination (code_of p) l x i) k d, counted_most i)

          by_byte : Dec (at block i < q) → 2 * counted i + pick (is_unknown q (at block i)) 1 0 ≤ symbol_cost q (at block i) (combination (code_of p) l x i)
          by_byte (yes k) = by_symbol k (ℕ_discrete (at block i) (combination (code_of p) l x i))
          by_byte (no d) =
              let past : q ≤ at block i = omega arith in
              let zero = thinned_unknown (field_of p S) p.n (root_of p S) (order_at p S) (λ a. is_unknown q (at block a)) (length block) error i
              (omega (arith, whole)) (unknown_byte past) in
              omega (arith, one _ (unknown_byte past), cost_unknown q (at block i) (combination (code_of p) l x i) past, uncounted i zero)

      -- So the block costs at least twice the thinned error's weight, and its unknown places besides.
      error_light : 2 * weight (K q o B).ops p.n thin + length places ≤ level_cost p (at block) l x
      unfolding block_cost counted
      error_light =
          omega (
            arith,
            total_mono p.n _ _ symbol_pays,
            total_add p.n (λ i. 2 * counted i) (λ i. pick (is_unknown q (at block i)) 1 0),
            total_scale p.n 2 counted,
            length_places (λ i. is_unknown q (at block i)) (length block),
            ap (λ (t : ℕ). count_of t (λ i. is_unknown q (at block i))) whole,
          )

      module _ {spectrum : Spectrum} {σ : Locator} (b : Begun p l block symbols spectrum σ)
          (close : level_cost p (at block) l x < level_distance p.n p.k l) where
        values_up : (count : ℕ) {series : List ℕ} → SpectrumOf q symbols count series → (s : ℕ) → s < count
            → up q o B (at series) (suc s) ≡ spectrum_of (field_of p S) p.n (root_of p S) (order_at p S) (received p S symbols) s
        values_up count {series} spectral s h =
            raise q o B _ _ (down q o B (at series (suc s)) (spectral.below (suc s))) (value_number p S symbols symbols_below long s)
            (ap (at series) (sym (add-one s)) ∙ spectral.values s h)

        syndromes : SpectrumOf q symbols (syndromes_at p l) spectrum.series
        syndromes = subst (λ (t : ℕ). SpectrumOf q symbols t spectrum.series) b.all b.known.spectral

        modified_up : (s : ℕ) → length places + s < syndromes_at p l
            → up q o B (at b.modified) (suc s) ≡ times_factors (K q o B).ops (root_of p S) places (up q o B (at spectrum.series)) (suc (length places + s))
        modified_up s h =
            raise q o B _ _ (down q o B (at b.modified (suc s)) (b.modifies.below (suc s)))
            (factors_down (at spectrum.series) syndromes.below places (suc (length places + s)))
            (ap (at b.modified) (sym (add-one s)) ∙ b.modifies.terms s h ∙ ap (times_factors o alpha places (at spectrum.series)) (add-one (length places + s)))

        located : Located (K q o B).ops (up q o B (at b.modified)) (syndromes_at p l - length places) b.found.degree b.found.place (el q o B b.found.scale)
            (up q o B (at b.found.coefficients)) (up q o B (at b.found.former))
        located =
            located_up q o B (at b.modified) (at b.found.coefficients) (at b.found.former) b.found.scale
            b.modifies.below b.located.locator_below b.located.former_below b.located.scale_below b.located.located

        degree_short : b.found.degree ≤ weight (K q o B).ops p.n thin
        unfolding error thin
        degree_short =
            degree_of_near (field_of p S) (root_of p S) p.n p.k p.m (order_at p S) l fits (received p S symbols) places (lifted p S x)
            (weight (K q o B).ops p.n thin) (omega arith) (omega (arith, error_light, close))
            (up q o B (at spectrum.series)) (up q o B (at b.modified)) (values_up (syndromes_at p l) syndromes) modified_up
            b.found.degree b.found.place (el q o B b.found.scale) (up q o B (at b.found.coefficients)) (up q o B (at b.found.former)) located

        pub degree_of_near_below : 2 * σ.degree < level_distance p.n p.k l + length places
        degree_of_near_below = omega (arith, close, degree_short, error_light, b.included.degree)

        pub read_of_near : {found : List ℕ} → Candidate p l symbols σ found → (a r : ℕ) → a ≤ l → r < p.k → at found (a * p.k + r) ≡ x a r
        unfolding lifted error thin
        read_of_near {found} C a r below inside =
            fall q o B (down q o B (at found (a * p.k + r)) (C.reads.below (a * p.k + r))) (down q o B (x a r) (information a r below inside))
            (information_of_near (field_of p S) (root_of p S) p.n p.k p.m (order_at p S) l fits (received p S symbols) places (lifted p S x)
            (weight (K q o B).ops p.n thin) (omega arith) (omega (arith, error_light, close))
            (up q o B (at spectrum.series)) (up q o B (at b.modified)) (values_up (syndromes_at p l) syndromes) modified_up
            b.found.degree b.found.place (el q o B b.found.scale) (up q o B (at b.found.coefficients)) (up q o B (at b.found.former)) located
            (up q o B (at C.series)) (values_up p.n C.spectral)
            (up q o B (at σ.coefficients)) (up q o B (at C.after)) (up q o B (at C.values))
            (λ j h. raise q o B _ _ (down q o B (at σ.coefficients j) (b.included.factored.below j))
            (factors_down (at b.found.coefficients) b.located.locator_below places j)
            (b.included.factored.terms j (omega (arith, h, degree_short, error_light, close, room))))
            (subst (λ (L : ℕ). Extended (K q o B).ops L (syndromes_at p l) ((l + 1) * p.k)
            (up q o B (at σ.coefficients)) (up q o B (at C.series)) (up q o B (at C.after)) (up q o B (at C.values)))
            b.included.degree
            (extended_up σ.degree (syndromes_at p l) ((l + 1) * p.k) (at σ.coefficients) (at C.series) (at C.after) (at C.values)
            b.included.factored.below C.spectral.below C.continued.below C.continued.values_below C.continued.extended))
            a (up q o B (view p.k found a)) below
            (recovered_up (view p.k C.values a) (λ e. C.continued.values_below (a * p.k + e)) p.k (view p.k found a) (λ e. C.reads.below (a * p.k + e))
            (C.reads.recovered a (omega arith)))
            r inside)
