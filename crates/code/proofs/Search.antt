-- Whether a message fits, by computation: a test for a given message, and a search that decides whether there is one (demands, "fits").
-- The search appends message symbols one after the other and drops a beginning as soon as the window that it has just finished, all of its blocks being
-- determined by the beginning, exceeds the limit.
-- Holds: `fits_test` and `fits_of_test` (a message that passes fits); `none_fits_test` and `no_message_fits` (where the search finds none, none fits);
-- `sent_of_beginning` and `window_of_beginning` (sent blocks and windows look at no later information block).
use mathlib.Core.Path.{◌≡◌, refl, sym, ap, subst, ◌∙◌}
use mathlib.Core.Bool.{Bool, true, false, not, ◌&&◌}
use mathlib.Core.List.{List, [], ◌∷◌, ◌++◌}
use Prim.Native.Nat.{ℕ, zero, suc, ◌+◌, ◌-◌, ◌*◌, ◌/◌, ◌%◌, ◌≤◌, ◌<◌}
use native.Mathlib.Nat.{mul-le-mul_right, div-lt_iff_lt-mul, div-add-mod'}
use native.Mathlib.Omega.{arith}
use native.Mathlib.Decide.{dec_lt}
use lib.Arith.{digits_lt}
use lib.Dec.{T as Passes, eqb, leb, ltb, eqb→eq, leb→le, le→leb, ltb→lt, T_not}
use lib.ListN.{length, get_or, length-append, get_or-append}
use lib.Seq.{ext_get_or, get_or_at}
use Rattle.algebra.specs.Ops.{pick}
use Rattle.algebra.proofs.Sums.{sum_ext}
use Rattle.algebra.proofs.Tests.{and_left, and_right, all, all_at}
use Rattle.algebra.proofs.Weights.{count_of_ext}
use Rattle.area.specs.Lists.{view}
use Rattle.area.proofs.Lists.{get_d_tabulate}
use Rattle.field.specs.Symbols.{is_unknown}
use Rattle.field.proofs.Symbols.{symbol_below}
use Rattle.code.specs.declared.Setting.{Setting}
use Rattle.code.specs.Code.{Code, design_distance}
use Rattle.code.specs.Generator.{row_symbol, times_g}
use Rattle.code.specs.Transmission.{earlier, sent_symbol}
use Rattle.code.specs.Settings.{code_of}
use Rattle.code.specs.parts.Sound.{Sound}
use Rattle.code.specs.Windows.{transmission, window_length, window_symbol, unknown_symbols, known_distance, window_sum, Message, Fits}
use Rattle.code.proofs.CodeBelow.{positive, message_blocks}
use Rattle.code.proofs.Settings.{block_positive}

-- Sent block s looks at the information blocks 0 to s.
pub sent_of_beginning : (c : Code ℕ) (u v : ℕ → ℕ → ℕ) (s i : ℕ) → ((b r : ℕ) → b ≤ s → r < c.k → u b r ≡ v b r) → sent_symbol c u s i ≡ sent_symbol c v s i
unfolding sent_symbol times_g
sent_of_beginning c u v s i same =
    sum_ext c.ops (suc c.m) (λ j. times_g c (earlier c.ops u s j) j i) (λ j. times_g c (earlier c.ops v s j) j i)
    (λ j h. sum_ext c.ops c.k (λ r. c.ops.mul (earlier c.ops u s j r) (row_symbol c j r i))
    (λ r. c.ops.mul (earlier c.ops v s j r) (row_symbol c j r i))
    (λ r l. ap (λ (t : ℕ). c.ops.mul t (row_symbol c j r i)) (block j r l (leb j s))))
  where
    block : (j r : ℕ) → r < c.k → (t : Bool) → pick t (u (s - j) r) c.ops.zero ≡ pick t (v (s - j) r) c.ops.zero
    block j r l true = same (s - j) r (omega arith) l
    block j r l false = refl

-- Symbol i of window j of what the information blocks u send.
abbrev pub sent_there : Setting → (ℕ → ℕ → ℕ) → ℕ → ℕ → ℕ
sent_there p u j i = sent_symbol (code_of p) u ((j * p.n + i) / p.n) ((j * p.n + i) % p.n)

-- Twice the known symbols of window j in which the reception differs from that, and its unknown ones.
unfoldable pub window_from : Setting → List ℕ → (ℕ → ℕ → ℕ) → ℕ → ℕ
window_from p reception u j =
    2 * known_distance p.q (window_length p) (window_symbol p reception j) (sent_there p u j)
    + unknown_symbols p.q (window_length p) (window_symbol p reception j)

unfoldable pub window_test : Setting → List ℕ → (ℕ → ℕ → ℕ) → ℕ → Bool
window_test p reception u j = leb (window_from p reception u j) (design_distance p.n p.k p.m)

-- Every window is within the limit.
unfoldable pub windows_test : Setting → ℕ → List ℕ → List ℕ → Bool
windows_test p T reception message = all T (window_test p reception (view p.k message))

unfoldable pub fits_test : Setting → ℕ → List ℕ → List ℕ → Bool
fits_test p T reception message =
    (leb 1 T && eqb (length message) (T * p.k))
    && (all (length message) (λ i. ltb (get_or message i 0) p.q)
    && (eqb (length reception) ((T + p.m) * p.n)
    && windows_test p T reception message))

-- The window that a beginning has just finished exceeds the limit: the beginning ends with block j + m.
unfoldable pub finished_far : Setting → List ℕ → List ℕ → Bool
finished_far p reception beginning =
    (eqb (length beginning % p.k) 0 && leb (p.m + 1) (length beginning / p.k))
    && not (window_test p reception (view p.k beginning) (length beginning / p.k - (p.m + 1)))

-- No message that begins so, with `left` symbols more, fits.
unfoldable pub none_begins : Setting → ℕ → List ℕ → ℕ → List ℕ → Bool
none_begins p T reception zero beginning = not (windows_test p T reception beginning)
none_begins p T reception (suc left) beginning =
    elim (finished_far p reception beginning) [
      | true ↦ true
      | false ↦ all p.q (λ a. none_begins p T reception left (beginning ++ a ∷ []))
    ]

unfoldable pub none_fits_test : Setting → ℕ → List ℕ → Bool
none_fits_test p T reception = none_begins p T reception (T * p.k) []

-- A test that passes at each number below n.
all_of : (n : ℕ) (test : ℕ → Bool) → ((a : ℕ) → a < n → Passes (test a)) → Passes (all n test)
unfolding all
all_of zero test h = tt
all_of (suc n) test h = both (test n) (all n test) (h n (omega arith)) (all_of n test (λ a l. h a (omega arith)))
  where
    both : (a b : Bool) → Passes a → Passes b → Passes (a && b)
    both true b s t = t
    both false b s t = s

-- A window of a transmission is determined by the information blocks up to its last block.
pub window_of_beginning : (p : Setting) → Sound p → (T : ℕ) (reception x : List ℕ) → Message p T x → (u : ℕ → ℕ → ℕ) (j : ℕ) → j < T
    → ((b r : ℕ) → b ≤ j + p.m → r < p.k → u b r ≡ view p.k x b r)
    → window_sum p reception (transmission p x) j ≡ window_from p reception u j
unfolding window_from transmission
window_of_beginning p S T reception x M u j l same =
    ap (λ (t : ℕ). 2 * t + unknown_symbols p.q (window_length p) (window_symbol p reception j))
    (count_of_ext (window_length p) _ _ (λ i h. ap (λ (t : ℕ). not (is_unknown p.q (window_symbol p reception j i)) && not (eqb (window_symbol p reception j i) t))
    (symbol i h)))
  where
    symbol : (i : ℕ) → i < window_length p
        → get_or (transmission p x) (j * p.n + i) 0 ≡ sent_symbol (code_of p) u ((j * p.n + i) / p.n) ((j * p.n + i) % p.n)
    symbol i h =
        let top : j + 1 + p.m ≤ T + p.m = omega arith in
        let inside : j * p.n + i < (T + p.m) * p.n = omega (arith, mul-le-mul_right p.n top) in
        let place : j * p.n + i < (j + p.m + 1) * p.n = omega arith in
        let block : (j * p.n + i) / p.n < j + p.m + 1 = (div-lt_iff_lt-mul (block_positive p S)).1 place in
        get_d_tabulate ((length x / p.k + p.m) * p.n) (λ s. sent_symbol (code_of p) (view p.k x) (s / p.n) (s % p.n)) (j * p.n + i) 0
        (subst (λ (t : ℕ). j * p.n + i < (t + p.m) * p.n) (sym (message_blocks p S T x M)) inside)
        ∙ sent_of_beginning (code_of p) (view p.k x) u ((j * p.n + i) / p.n) ((j * p.n + i) % p.n)
        (λ b r a c. sym (same b r (omega arith) c))

-- A message that passes the test fits.
pub fits_of_test : (p : Setting) → Sound p → (T : ℕ) (reception message : List ℕ) → Passes (fits_test p T reception message) → Fits p T reception message
unfolding fits_test windows_test window_test
fits_of_test p S T reception message t =
    record {
      message_of = M;
      long = eqb→eq (length reception) ((T + p.m) * p.n) (and_left long windows (and_right symbols (long && windows) rest));
      near = λ j l.
          subst (λ (d : ℕ). d ≤ design_distance p.n p.k p.m) (sym (window_of_beginning p S T reception message M (view p.k message) j l (λ b r a c. refl)))
          (leb→le (window_from p reception (view p.k message) j) (design_distance p.n p.k p.m)
          (all_at T (window_test p reception (view p.k message)) (and_right long windows (and_right symbols (long && windows) rest)) j l));
    }
  where
    shape : Bool
    shape = leb 1 T && eqb (length message) (T * p.k)

    symbols : Bool
    symbols = all (length message) (λ i. ltb (get_or message i 0) p.q)

    long : Bool
    long = eqb (length reception) ((T + p.m) * p.n)

    windows : Bool
    windows = windows_test p T reception message

    rest : Passes (symbols && (long && windows))
    rest = and_right shape (symbols && (long && windows)) t

    M : Message p T message
    M =
        record {
          blocks = leb→le 1 T (and_left (leb 1 T) (eqb (length message) (T * p.k)) (and_left shape (symbols && (long && windows)) t));
          long = eqb→eq (length message) (T * p.k) (and_right (leb 1 T) (eqb (length message) (T * p.k)) (and_left shape (symbols && (long && windows)) t));
          symbols = record {
            below = λ i l. ltb→lt (get_or message i 0) p.q
                (all_at (length message) (λ i. ltb (get_or message i 0) p.q) (and_left symbols (long && windows) rest) i l);
          };
        }

-- A message that fits is not dropped.
module _ (p : Setting) (S : Sound p) (T : ℕ) (reception x : List ℕ) (F : Fits p T reception x) where
  near_window : (u : ℕ → ℕ → ℕ) (j : ℕ) → j < T → ((b r : ℕ) → b ≤ j + p.m → r < p.k → u b r ≡ view p.k x b r) → Passes (window_test p reception u j)
  unfolding window_test
  near_window u j l same =
      le→leb (window_from p reception u j) (design_distance p.n p.k p.m)
      (subst (λ (d : ℕ). d ≤ design_distance p.n p.k p.m) (window_of_beginning p S T reception x F.message_of u j l same) (F.near j l))

  windows_near : Passes (windows_test p T reception x)
  unfolding windows_test
  windows_near = all_of T (window_test p reception (view p.k x)) (λ j l. near_window (view p.k x) j l (λ b r a c. refl))

  -- x begins so.
  Begins : List ℕ → Type 0
  Begins beginning = (i : ℕ) → i < length beginning → get_or beginning i 0 ≡ get_or x i 0

  finished_near : (beginning : List ℕ) → length beginning ≤ length x → Begins beginning → Passes (finished_far p reception beginning) → ⊥
  unfolding finished_far Begins
  finished_near beginning short begins t =
      let far : Bool = not (window_test p reception (view p.k beginning) (length beginning / p.k - (p.m + 1))) in
      let ends : Bool = eqb (length beginning % p.k) 0 && leb (p.m + 1) (length beginning / p.k) in
      let finished : Passes ends = and_left ends far t in
      let whole : length beginning % p.k ≡ 0 =
      eqb→eq (length beginning % p.k) 0 (and_left (eqb (length beginning % p.k) 0) (leb (p.m + 1) (length beginning / p.k)) finished) in
      let enough : p.m + 1 ≤ length beginning / p.k =
      leb→le (p.m + 1) (length beginning / p.k) (and_right (eqb (length beginning % p.k) 0) (leb (p.m + 1) (length beginning / p.k)) finished) in
      let long : length beginning / p.k * p.k ≡ length beginning = omega (arith, div-add-mod' (length beginning) p.k) in
      let few : length beginning < (T + 1) * p.k = omega (arith, F.message_of.long, S.information) in
      let most : length beginning / p.k < T + 1 = (div-lt_iff_lt-mul S.information).1 few in
      T_not (window_test p reception (view p.k beginning) (length beginning / p.k - (p.m + 1))) (and_right ends far t)
      (near_window (view p.k beginning) (length beginning / p.k - (p.m + 1)) (omega arith)
      (λ b r a c. let inside : b < length beginning / p.k = omega arith in begins (b * p.k + r) (omega (arith, digits_lt inside c))))

  more_begins : (beginning : List ℕ) → Begins beginning → Begins (beginning ++ get_or x (length beginning) 0 ∷ [])
  unfolding Begins
  more_begins beginning begins i h = at (dec_lt i (length beginning))
    where
      at : Dec (i < length beginning) → get_or (beginning ++ get_or x (length beginning) 0 ∷ []) i 0 ≡ get_or x i 0
      at (yes l) = get_or-append beginning (get_or x (length beginning) 0 ∷ []) 0 i l ∙ begins i l
      at (no d) =
          let last : length beginning ≡ i = omega (arith, length-append beginning (get_or x (length beginning) 0 ∷ [])) in
          get_or_at beginning (get_or x (length beginning) 0) [] 0 i last ∙ ap (λ (k : ℕ). get_or x k 0) last

  not_dropped : (left : ℕ) (beginning : List ℕ) → length beginning + left ≡ length x → Begins beginning → Passes (none_begins p T reception left beginning) → ⊥
  unfolding none_begins Begins
  not_dropped zero beginning long begins t =
      let same : length beginning ≡ length x = omega arith in
      T_not (windows_test p T reception beginning) t
      (subst (λ (l : List ℕ). Passes (windows_test p T reception l)) (sym (ext_get_or 0 beginning x same begins)) windows_near)
  not_dropped (suc left) beginning long begins t =
      at (not_dropped left (beginning ++ get_or x (length beginning) 0 ∷ []) (omega (arith, length-append beginning (get_or x (length beginning) 0 ∷ [])))
      (more_begins beginning begins))
      (finished_far p reception beginning) refl t
    where
      at : (Passes (none_begins p T reception left (beginning ++ get_or x (length beginning) 0 ∷ [])) → ⊥) → (far : Bool)
          → finished_far p reception beginning ≡ far
          → Passes (elim far [ true ↦ true | false ↦ all p.q (λ a. none_begins p T reception left (beginning ++ a ∷ [])) ]) → ⊥
      at more true e t = finished_near beginning (omega arith) begins (subst Passes (sym e) tt)
      at more false e t =
          more (all_at p.q (λ a. none_begins p T reception left (beginning ++ a ∷ [])) t (get_or x (length beginning) 0)
          (symbol_below p.q x F.message_of.symbols (positive p S) (length beginning)))

-- The search finds no message: none fits.
pub no_message_fits : (p : Setting) → Sound p → (T : ℕ) (reception : List ℕ) → Passes (none_fits_test p T reception) → (x : List ℕ) → Fits p T reception x → ⊥
unfolding none_fits_test Begins
no_message_fits p S T reception t x F =
    not_dropped p S T reception x F (T * p.k) [] (omega (arith, F.message_of.long)) (λ i l. absurd (omega arith)) t
