-- A symbol's cost on bytes. Only this file looks into `symbol_cost`: its values, its two laws, and the lemmas that join it with the words of `Fits`.
-- Holds: `unknown_byte`, `known_byte`, `less_unknown`, `less_known`; `cost_unknown`, `cost_known`, `cost_same`, `cost_differ`, `cost_most`; `cost_apart`,
-- `cost_shift`, the two laws; `sub_below`; `cost_parts`, `cost_count`, `cost_zeros`, `known_nonzero` (costs and counts of symbols); `none_unknown`, `all_known`;
-- `byte_cost`, `bytes_apart`, the cost of a byte for an element of the field; `message_cost_lem`; `fits_cost` (at most d is less than d_0 + .. + d_m),
-- `fits_near`; `within_limit`, `known_counts`, `at_most_limit` (01's words for it).
use mathlib.Core.Path.{◌≡◌, sym, ap, ap₂, ◌∙◌}
use mathlib.Core.Bool.{Bool, true, false, not, ◌&&◌}
use mathlib.Core.List.{List}
use Prim.Native.Nat.{ℕ, zero, suc, ◌+◌, ◌-◌, ◌*◌, ◌/◌, ◌≤◌, ◌<◌}
use native.Mathlib.Numerals.{add-one}
use native.Mathlib.Omega.{arith}
use native.Mathlib.Decide.{ℕ_discrete, dec_lt}
use lib.Dec.{eqb}
use lib.ListN.{get_or}
use borrow.Author.Tests.{le-leb, lt-leb, eq-eqb, ne_eqb}
use Rattle.algebra.specs.Ops.{sub, pick}
use Rattle.algebra.specs.Weight.{total, count_of}
use Rattle.algebra.proofs.Laws.{add_cancel, add_comm}
use Rattle.algebra.proofs.Weights.{total_ext, total_mono, total_most, total_add, total_scale, total_blocks, count_of_ext, count_of_without}
use Rattle.algebra.proofs.Below.{Element, number, number_injective}
use Rattle.area.specs.Lists.{view}
use Rattle.field.specs.Fields.{ops_of}
use Rattle.field.specs.Symbols.{is_unknown}
use Rattle.code.specs.declared.Setting.{Setting}
use Rattle.code.specs.Code.{distances_to, limit}
use Rattle.field.proofs.Symbols.{symbol_below}
use Rattle.code.specs.Transmission.{sent_symbol}
use Rattle.code.specs.parts.Cost.{symbol_cost, cost_to, message_cost, NearWindow}
use Rattle.code.specs.parts.Residual.{less}
use Rattle.code.specs.parts.Sound.{Sound}
use Rattle.code.specs.Windows.{transmission, window_length, window_symbol, window_distance, unknown_symbols, known_distance, window_sum, Message, WithinLimit, Fits, AtMostLimit, KnownCounts}
use Rattle.code.proofs.CodeBelow.{laws, field_of, over_field, lifted, number_sub, sent_number, message_below, transmission_view, transmission_symbols, positive}

-- Bytes from q up are unknown, others are not.
pub unknown_byte : {q v : ℕ} → q ≤ v → is_unknown q v ≡ true
unknown_byte {q} {v} h = le-leb q v h

pub known_byte : {q v : ℕ} → v < q → is_unknown q v ≡ false
known_byte {q} {v} h = lt-leb q v h

pub less_unknown : (q v a : ℕ) → q ≤ v → less q v a ≡ v
less_unknown q v a h = ap (λ (t : Bool). pick t v (sub (ops_of q) v a)) (unknown_byte h)

pub less_known : (q v a : ℕ) → v < q → less q v a ≡ sub (ops_of q) v a
less_known q v a h = ap (λ (t : Bool). pick t v (sub (ops_of q) v a)) (known_byte h)

module _ (q : ℕ) where
  pub cost_unknown : (v a : ℕ) → q ≤ v → symbol_cost q v a ≡ 1
  unfolding symbol_cost
  cost_unknown v a h = ap {B = ℕ} (λ (t : Bool). pick t 1 (pick (eqb v a) 0 2)) (unknown_byte h)

  pub cost_known : (v a : ℕ) → v < q → symbol_cost q v a ≡ pick (eqb v a) 0 2
  unfolding symbol_cost
  cost_known v a h = ap {B = ℕ} (λ (t : Bool). pick t 1 (pick (eqb v a) 0 2)) (known_byte h)

  pub cost_same : (v a : ℕ) → v < q → v ≡ a → symbol_cost q v a ≡ 0
  cost_same v a h e = cost_known v a h ∙ ap {B = ℕ} (λ (t : Bool). pick t 0 2) (eq-eqb v a e)

  pub cost_differ : (v a : ℕ) → v < q → (v ≡ a → ⊥) → symbol_cost q v a ≡ 2
  cost_differ v a h d = cost_known v a h ∙ ap {B = ℕ} (λ (t : Bool). pick t 0 2) (ne_eqb v a d)

  pub cost_most : (v a : ℕ) → symbol_cost q v a ≤ 2
  unfolding symbol_cost
  cost_most v a = at (is_unknown q v) (eqb v a)
    where
      at : (unknown same : Bool) → pick unknown 1 (pick same 0 2) ≤ 2
      at true same = omega arith
      at false true = omega arith
      at false false = omega arith

  -- Two different symbols cost at least 2 together, whatever was received.
  pub cost_apart : (v a b : ℕ) → (a ≡ b → ⊥) → 2 ≤ symbol_cost q v a + symbol_cost q v b
  cost_apart v a b d = at (dec_lt v q) (ℕ_discrete v a)
    where
      at : Dec (v < q) → Dec (v ≡ a) → 2 ≤ symbol_cost q v a + symbol_cost q v b
      at (no u) e = let past : q ≤ v = omega arith in omega (arith, cost_unknown v a past, cost_unknown v b past)
      at (yes k) (yes e) = omega (arith, cost_differ v b k (λ f. d (sym e ∙ f)))
      at (yes k) (no h) = omega (arith, cost_differ v a k h)

  -- Two for a known symbol that differs, and one for an unknown one.
  pub cost_parts : (v a : ℕ) → 2 * pick (not (is_unknown q v) && not (eqb v a)) 1 0 + pick (is_unknown q v) 1 0 ≡ symbol_cost q v a
  unfolding symbol_cost
  cost_parts v a = parts (is_unknown q v) (eqb v a)
    where
      parts : (u e : Bool) → 2 * pick (not u && not e) 1 0 + pick u 1 0 ≡ pick u 1 (pick e 0 2)
      parts true e = omega arith
      parts false true = omega arith
      parts false false = omega arith

  -- Against zero a symbol costs 2 if it is not zero, and one less if it is unknown.
  cost_zero : 1 ≤ q → (v : ℕ) → symbol_cost q v 0 + pick (is_unknown q v) 1 0 ≡ 2 * pick (not (eqb v 0)) 1 0
  cost_zero some v = at (dec_lt v q) (ℕ_discrete v 0)
    where
      -- What the parts are, known or not, zero or not.
      parts : (cost : ℕ) → symbol_cost q v 0 ≡ cost → (unknown none : Bool) → is_unknown q v ≡ unknown → eqb v 0 ≡ none
          → cost + pick unknown 1 0 ≡ 2 * pick (not none) 1 0 → symbol_cost q v 0 + pick (is_unknown q v) 1 0 ≡ 2 * pick (not (eqb v 0)) 1 0
      parts cost c unknown none u z e =
          ap₂ (λ (a : ℕ) (b : Bool). a + pick b 1 0) c u ∙ e ∙ sym (ap (λ (b : Bool). 2 * pick (not b) 1 0) z)

      at : Dec (v < q) → Dec (v ≡ 0) → symbol_cost q v 0 + pick (is_unknown q v) 1 0 ≡ 2 * pick (not (eqb v 0)) 1 0
      at (no d) z =
          let past : q ≤ v = omega arith in
          parts 1 (cost_unknown v 0 past) true false (unknown_byte past) (ne_eqb v 0 (λ e. omega arith)) (omega arith)
      at (yes k) (yes e) = parts 0 (cost_same v 0 k e) false true (known_byte k) (eq-eqb v 0 e) (omega arith)
      at (yes k) (no d) = parts 2 (cost_differ v 0 k d) false false (known_byte k) (ne_eqb v 0 d) (omega arith)

  -- Against zeros, with the unknown symbols counted once more, symbols cost 2 for each that is not zero.
  pub cost_zeros : 1 ≤ q → (n : ℕ) (v : ℕ → ℕ) → total n (λ i. symbol_cost q (v i) 0) + unknown_symbols q n v ≡ 2 * count_of n (λ i. not (eqb (v i) 0))
  cost_zeros some n v =
      sym (total_add n (λ i. symbol_cost q (v i) 0) (λ i. pick (is_unknown q (v i)) 1 0))
      ∙ total_ext n _ _ (λ i h. cost_zero some (v i))
      ∙ total_scale n 2 (λ i. pick (not (eqb (v i) 0)) 1 0)

  -- Twice the known differing symbols and the unknown ones are the cost.
  pub cost_count : (n : ℕ) (v a : ℕ → ℕ) → 2 * known_distance q n v a + unknown_symbols q n v ≡ total n (λ i. symbol_cost q (v i) (a i))
  cost_count n v a =
      ap (λ (t : ℕ). t + unknown_symbols q n v) (sym (total_scale n 2 (λ i. pick (not (is_unknown q (v i)) && not (eqb (v i) (a i))) 1 0)))
      ∙ sym (total_add n (λ i. 2 * pick (not (is_unknown q (v i)) && not (eqb (v i) (a i))) 1 0) (λ i. pick (is_unknown q (v i)) 1 0))
      ∙ total_ext n _ _ (λ i h. cost_parts (v i) (a i))

  -- The known symbols that are not zero.
  pub known_nonzero : 1 ≤ q → (n : ℕ) (v : ℕ → ℕ) → known_distance q n v (λ i. 0) + unknown_symbols q n v ≡ count_of n (λ i. not (eqb (v i) 0))
  known_nonzero some n v = omega (arith, cost_count n v (λ i. 0), cost_zeros some n v)

  -- Where all are symbols, none is unknown; and the other way round.
  pub none_unknown : (n : ℕ) (v : ℕ → ℕ) → ((i : ℕ) → i < n → v i < q) → unknown_symbols q n v ≡ 0
  none_unknown n v known =
      let most = total_most n 0 (λ i. pick (is_unknown q (v i)) 1 0)
      (λ i l. omega (arith, ap {B = ℕ} (λ (u : Bool). pick u 1 0) (known_byte (known i l)))) in
      omega (arith, most)

  pub all_known : (n : ℕ) (v : ℕ → ℕ) → unknown_symbols q n v ≡ 0 → (i : ℕ) → i < n → v i < q
  all_known n v none i l = at (dec_lt (v i) q)
    where
      at : Dec (v i < q) → v i < q
      at (yes k) = k
      at (no d) =
          let past : q ≤ v i = omega arith in absurd (omega (arith, none, count_of_without n i (λ a. is_unknown q (v a)) l (unknown_byte past)))

  -- What receiving a byte costs where an element was sent.
  abbrev pub byte_cost : ℕ → Element q → ℕ
  byte_cost v a = symbol_cost q v (number a)

  pub bytes_apart : (v : ℕ) (a b : Element q) → (a ≡ b → ⊥) → 2 ≤ byte_cost v a + byte_cost v b
  bytes_apart v a b d = cost_apart v (number a) (number b) (λ e. d (number_injective a b e))

-- A sum of distances is not zero.
distances_positive : (n k l : ℕ) → 1 ≤ distances_to n k l
unfolding distances_to
distances_positive n k zero = omega arith
distances_positive n k (suc l) = omega arith

module _ (p : Setting) (S : Sound p) where
  pub sub_below : (a b : ℕ) → a < p.q → b < p.q → sub (ops_of p.q) a b < p.q
  sub_below a b la lb = (laws p S).add_below a ((ops_of p.q).neg b) la ((laws p S).neg_below b lb)

  -- Taking the same symbol out of what was received and of what was sent keeps the cost.
  pub cost_shift : (v a s : ℕ) → a < p.q → s < p.q → symbol_cost p.q (less p.q v s) (sub (ops_of p.q) a s) ≡ symbol_cost p.q v a
  cost_shift v a s la ls = at (dec_lt v p.q) (ℕ_discrete v a)
    where
      back : v < p.q → sub (ops_of p.q) v s ≡ sub (ops_of p.q) a s → v ≡ a
      back lv e =
          let K = field_of p S in
          let less : Element p.q = K.ops.neg (s, ls) in
          ap number (add_cancel K less (v, lv) (a, la) (add_comm K less (v, lv)
          ∙ number_injective _ _ (number_sub p S (v, lv) (s, ls) ∙ e ∙ sym (number_sub p S (a, la) (s, ls))) ∙ add_comm K (a, la) less))

      at : Dec (v < p.q) → Dec (v ≡ a) → symbol_cost p.q (less p.q v s) (sub (ops_of p.q) a s) ≡ symbol_cost p.q v a
      at (no u) e =
          let past : p.q ≤ v = omega arith in
          ap (λ (t : ℕ). symbol_cost p.q t (sub (ops_of p.q) a s)) (less_unknown p.q v s past)
          ∙ cost_unknown p.q v (sub (ops_of p.q) a s) past ∙ sym (cost_unknown p.q v a past)
      at (yes k) (yes e) =
          ap (λ (t : ℕ). symbol_cost p.q t (sub (ops_of p.q) a s)) (less_known p.q v s k)
          ∙ cost_same p.q _ _ (sub_below v s k ls) (ap (λ (t : ℕ). sub (ops_of p.q) t s) e) ∙ sym (cost_same p.q v a k e)
      at (yes k) (no d) =
          ap (λ (t : ℕ). symbol_cost p.q t (sub (ops_of p.q) a s)) (less_known p.q v s k)
          ∙ cost_differ p.q _ _ (sub_below v s k ls) (λ e. d (back k e)) ∙ sym (cost_differ p.q v a k d)

  module _ (T : ℕ) (w x : List ℕ) (M : Message p T x) (j : ℕ) where
    -- What window j costs, over the field.
    pub message_cost_lem : cost_to p.n (byte_cost p.q) (view p.n w) (sent_symbol (over_field p S) (lifted p S (view p.k x))) j p.m ≡ message_cost p w x j
    unfolding cost_to
    message_cost_lem =
        total_ext (suc p.m) _ _ (λ s h. total_ext p.n _ _ (λ i u.
        ap (symbol_cost p.q (view p.n w (j + s) i)) (sent_number p S (view p.k x) (message_below p S T x M) (j + s) i)))

    sum_is_cost : j < T → window_sum p w (transmission p x) j ≡ message_cost p w x j
    unfolding cost_to
    sum_is_cost l =
        cost_count p.q (window_length p) (window_symbol p w j) (window_symbol p (transmission p x) j)
        ∙ total_blocks (p.m + 1) p.n (λ i. symbol_cost p.q (get_or w (j * p.n + i) 0) (get_or (transmission p x) (j * p.n + i) 0))
        ∙ ap (λ (t : ℕ). total t (λ s. total p.n (λ i. symbol_cost p.q (get_or w (j * p.n + (s * p.n + i)) 0)
        (get_or (transmission p x) (j * p.n + (s * p.n + i)) 0)))) (add-one p.m)
        ∙ total_ext (suc p.m) _ _ (λ s h. total_ext p.n _ _ (λ i u.
        let place : j * p.n + (s * p.n + i) ≡ (j + s) * p.n + i = omega arith in
        ap (λ (t : ℕ). symbol_cost p.q (get_or w t 0) (get_or (transmission p x) t 0)) place
        ∙ ap (symbol_cost p.q (view p.n w (j + s) i)) (transmission_view p S T x M (j + s) i (omega arith) u)))

    -- At most d: at a cost of less than d_0 + .. + d_m.
    pub fits_cost : j < T → (WithinLimit p w x j → NearWindow p w x j) × (NearWindow p w x j → WithinLimit p w x j)
    fits_cost l = within _ _ _ (distances_positive p.n p.k p.m) (sum_is_cost l)
      where
        within : (a c d : ℕ) → 1 ≤ d → a ≡ c → (a ≤ d - 1 → c < d) × (c < d → a ≤ d - 1)
        within a c d h e = (λ u. omega arith, λ u. omega arith)

    -- At most t symbols that differ cost at most d, whatever was received.
    pub within_limit : window_distance p w (transmission p x) j ≤ limit p.n p.k p.m → WithinLimit p w x j
    within_limit h =
        let v = window_symbol p w j in
        let a = window_symbol p (transmission p x) j in
        omega (
          arith,
          h,
          cost_count p.q (window_length p) v a,
          total_mono (window_length p) (λ i. symbol_cost p.q (v i) (a i)) (λ i. 2 * pick (not (eqb (v i) (a i))) 1 0)
              (λ i l. twice (v i) (a i) (symbol_below p.q (transmission p x) (transmission_symbols p S T x M) (positive p S) (j * p.n + i))),
          total_scale (window_length p) 2 (λ i. pick (not (eqb (v i) (a i))) 1 0),
        )
      where
        twice : (v a : ℕ) → a < p.q → symbol_cost p.q v a ≤ 2 * pick (not (eqb v a)) 1 0
        twice v a la = at (dec_lt v p.q) (ℕ_discrete v a)
          where
            at : Dec (v < p.q) → Dec (v ≡ a) → symbol_cost p.q v a ≤ 2 * pick (not (eqb v a)) 1 0
            at (no u) e =
                let past : p.q ≤ v = omega arith in
                omega (arith, cost_unknown p.q v a past, ap {B = ℕ} (λ (t : Bool). pick (not t) 1 0) (ne_eqb v a (λ z. omega arith)))
            at (yes k) (yes e) = omega (arith, cost_same p.q v a k e)
            at (yes k) (no d) = omega (arith, cost_differ p.q v a k d, ap {B = ℕ} (λ (t : Bool). pick (not t) 1 0) (ne_eqb v a d))

  pub fits_near : (T : ℕ) (w x : List ℕ) → Fits p T w x → (j : ℕ) → j < T → NearWindow p w x j
  fits_near T w x F j l = (fits_cost T w x F.message_of j l).0 (F.near j l)

-- Where all are symbols, those that differ are all counted.
pub known_counts : KnownCounts
known_counts q n v a known =
    (count_of_ext n _ _ (λ i l. ap (λ (u : Bool). not u && not (eqb (v i) (a i))) (known_byte (known i l))), none_unknown q n v known)

-- Where no symbol of the window is unknown, at most d is at most t symbols that differ.
pub at_most_limit : AtMostLimit
at_most_limit p reception message j known =
    let counts = known_counts p.q (window_length p) (window_symbol p reception j) (window_symbol p (transmission p message) j) known in
    halved _ _ _ _ counts.0 counts.1
  where
    halved : (differing distance unknown d : ℕ) → differing ≡ distance → unknown ≡ 0
        → (2 * differing + unknown ≤ d → distance ≤ d / 2) × (distance ≤ d / 2 → 2 * differing + unknown ≤ d)
    halved differing distance unknown d e f = (λ u. omega arith, λ u. omega arith)
