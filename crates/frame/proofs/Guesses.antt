-- Changes of the guessed message, and the residual after them.
-- Holds: `window_room`, `symbol_room`; `revised_none`, `revised_then`; `adjusted`, `adjusted_exact`; `Adding` (the first r symbols of a block were added) and its
-- steps to `adding_all`; `added_zero`, `added_same`, `added_then`.
use mathlib.Core.Path.{◌≡◌, refl, sym, ap, ap₂, subst, ◌∙◌}
use mathlib.Core.Bool.{Bool, true, false}
use mathlib.Core.List.{List}
use Prim.Native.Nat.{ℕ, ◌+◌, ◌-◌, ◌*◌, ◌≤◌, ◌<◌}
use native.Mathlib.Nat.{mul-le-mul_right}
use native.Mathlib.Omega.{arith}
use native.Mathlib.Decide.{dec_lt, dec_le, ℕ_discrete}
use lib.Arith.{digits_lt}
use lib.Dec.{leb, eqb}
use lib.ListN.{length, get_or, take, drop, set, length-set}
use lib.Seq.{get_or-set_same, get_or-set_other}
use borrow.Author.Tests.{le-leb, lt-leb, eq-eqb, ne_eqb}
use borrow.Rule.Slice.PartMut.{put_mid}
use Rattle.algebra.specs.Ops.{pick}
use Rattle.area.specs.Lists.{view}
use Rattle.area.proofs.Lists.{stored, window_view}
use Rattle.area.proofs.Parts.{put_length, put_before, put_inside, put_after}
use Rattle.field.specs.Fields.{ops_of}
use Rattle.field.specs.Symbols.{Symbols}
use Rattle.field.proofs.Symbols.{symbol_below, symbols_set, symbols_take, symbols_drop, put_symbols}
use Rattle.code.specs.parts.Residual.{less, window_at}
use Rattle.code.specs.declared.Setting.{Setting}
use Rattle.code.specs.Generator.{row_symbol, times_g}
use Rattle.code.specs.Settings.{code_of}
use Rattle.code.specs.parts.Sound.{Sound}
use Rattle.code.specs.Windows.{window_length}
use Rattle.code.specs.parts.InformationBlocks.{only}
use Rattle.code.proofs.CodeBelow.{laws, positive, row_symbol_below}
use Rattle.code.proofs.FrameWindows.{window_inside, length_window_at}
use Rattle.code.proofs.Residuals.{plus_opposite}
use Rattle.code.proofs.ResidualSteps.{times_g_only, lessened, residual_step}
use Rattle.tables.specs.parts.RowsAdded.{plus_row, RowsAdded}
use Rattle.frame.specs.parts.Frame.{FrameAreas, Revised, Adjusted, Added}

-- Window j lies within the residual, and message block j within the message.
pub window_room : (p : Setting) (T unknown j : ℕ) (message residual : List ℕ) → FrameAreas p T unknown message residual → j < T → j * p.n + window_length p ≤ length residual
window_room p T unknown j message residual A l = omega (arith, window_inside p T j l, A.residual_long)

pub symbol_room : (p : Setting) (T unknown j r : ℕ) (message residual : List ℕ) → FrameAreas p T unknown message residual → j < T → r < p.k → j * p.k + r < length message
symbol_room p T unknown j r message residual A l u =
    subst (λ (t : ℕ). j * p.k + r < t) (sym A.message_long) (digits_lt l u)

module _ {p : Setting} {T unknown : ℕ} where
  pub revised_none : {i : ℕ} {message residual : List ℕ} → FrameAreas p T unknown message residual → Revised p T unknown i message residual message residual
  revised_none A = record { areas = A; before = λ a l. refl; is_residual = λ w R. R }

  -- Changes from block i on, and then from a later block on.
  pub revised_then : {i j : ℕ} {message residual message' residual' message'' residual'' : List ℕ}
      → Revised p T unknown i message residual message' residual' → Revised p T unknown j message' residual' message'' residual'' → i ≤ j
      → Revised p T unknown i message residual message'' residual''
  revised_then A B low =
      record {
        areas = B.areas;
        before = λ a l. B.before a (omega (arith, mul-le-mul_right p.k low)) ∙ A.before a l;
        is_residual = λ w R. B.is_residual w (A.is_residual w R);
      }

module _ (p : Setting) (S : Sound p) (T unknown j r v : ℕ) (message residual : List ℕ) (A : FrameAreas p T unknown message residual) (lj : j < T) (lr : r < p.k)
    (lv : v < p.q)
    (w : ℕ) (sum : w ≡ (ops_of p.q).add (get_or message (j * p.k + r) 0) v) (u : ℕ) (lu : u < p.q) (opposite : (ops_of p.q).add v u ≡ 0)
    (window' : List ℕ) (L : RowsAdded p r u (window_at p residual j) window') where
  message_below : (a : ℕ) → get_or message a 0 < p.q
  message_below = symbol_below p.q message A.message_symbols (positive p S)

  only_below : (a : ℕ) → only r v a < p.q
  only_below a = at (eqb a r)
    where
      at : (t : Bool) → pick t v 0 < p.q
      at true = lv
      at false = positive p S

  residual_room : j * p.n + window_length p ≤ length residual
  residual_room = window_room p T unknown j message residual A lj

  window_long : length window' ≡ window_length p
  window_long = L.long ∙ length_window_at p residual j residual_room

  h : List ℕ
  h = set message (j * p.k + r) w

  residual' : List ℕ
  residual' = put_mid (j * p.n) (window_length p) residual window'

  h_symbols : Symbols p.q h
  unfolding h
  h_symbols =
      symbols_set p.q message (j * p.k + r) w (subst (λ (t : ℕ). t < p.q) (sym sum) ((laws p S).add_below _ v (message_below (j * p.k + r)) lv))
      A.message_symbols

  placed : (a : ℕ) → a < p.k → view p.k h j a ≡ (ops_of p.q).add (view p.k message j a) (only r v a)
  unfolding h
  placed a l = at (ℕ_discrete a r)
    where
      at : Dec (a ≡ r) → get_or (set message (j * p.k + r) w) (j * p.k + a) 0 ≡ (ops_of p.q).add (get_or message (j * p.k + a) 0) (pick (eqb a r) v 0)
      at (yes s) =
          ap (λ (t : ℕ). get_or (set message (j * p.k + r) w) (j * p.k + t) 0) s
          ∙ get_or-set_same message (j * p.k + r) w 0 (symbol_room p T unknown j r message residual A lj lr)
          ∙ sum
          ∙ ap₂ (λ (t : ℕ) (b : Bool). (ops_of p.q).add (get_or message (j * p.k + t) 0) (pick b v 0)) (sym s) (sym (eq-eqb a r s))
      at (no d) =
          get_or-set_other message (j * p.k + r) (j * p.k + a) w 0 (λ e. d (omega arith))
          ∙ sym ((laws p S).plus_zero (get_or message (j * p.k + a) 0) (message_below (j * p.k + a)))
          ∙ ap (λ (b : Bool). (ops_of p.q).add (get_or message (j * p.k + a) 0) (pick b v 0)) (sym (ne_eqb a r d))

  others : (s a : ℕ) → (s ≡ j → ⊥) → a < p.k → view p.k h s a ≡ view p.k message s a
  unfolding h
  others s a d u = get_or-set_other message (j * p.k + r) (s * p.k + a) w 0 (at (dec_lt s j))
    where
      at : Dec (s < j) → s * p.k + a ≡ j * p.k + r → ⊥
      at (yes b) e = let low : s * p.k + a < j * p.k = digits_lt b u in omega arith
      at (no b) e =
          let past : j < s = omega arith in
          let high : j * p.k + r < s * p.k = digits_lt past lr in
          omega arith

  changed : (s i : ℕ) → s < T + p.m → i < p.n → view p.n residual' s i ≡ lessened p S residual (only r v) j s i
  unfolding residual'
  changed s i h e = at (dec_le j s) (dec_le (s - j) p.m)
    where
      x : ℕ → ℕ
      x = only r v

      at : Dec (j ≤ s) → Dec (s - j ≤ p.m) → view p.n (put_mid (j * p.n) (window_length p) residual window') s i ≡ lessened p S residual x j s i
      at (yes a) (yes b) =
          let top : s - j < p.m + 1 = omega arith in
          let place : s * p.n + i ≡ j * p.n + ((s - j) * p.n + i) = omega (arith, scaled s j p.n a) in
          let back : j + (s - j) ≡ s = omega arith in
          ap (λ (t : ℕ). get_or (put_mid (j * p.n) (window_length p) residual window') t 0) place
          ∙ put_inside (j * p.n) (window_length p) residual window' residual_room window_long ((s - j) * p.n + i) (digits_lt top e)
          ∙ L.inside (s - j) i top e
          ∙ ap (plus_row p r u (s - j) i) (window_view p.n p.m residual j (s - j) i b e ∙ ap (λ (t : ℕ). view p.n residual t i) back)
          ∙ plus_opposite p S (view p.n residual s i) v u (row_symbol (code_of p) (s - j) r i) lv lu
          (row_symbol_below p S (s - j) r i) opposite
          ∙ ap (less p.q (view p.n residual s i)) (sym (times_g_only p S r v (s - j) i lr lv))
          ∙ sym (ap₂ (λ (c d : Bool). pick c (pick d (less p.q (view p.n residual s i) (times_g (code_of p) x (s - j) i))
          (view p.n residual s i)) (view p.n residual s i))
          (le-leb j s a) (le-leb (s - j) p.m b))
        where
          scaled : (s j n : ℕ) → j ≤ s → s * n ≡ j * n + (s - j) * n
          scaled s j n q = let same : s ≡ j + (s - j) = omega arith in ap (λ (t : ℕ). t * n) same ∙ omega arith
      at (yes a) (no b) =
          let far : p.m < s - j = omega arith in
          let past : j + (p.m + 1) ≤ s = omega arith in
          put_after (j * p.n) (window_length p) residual window' residual_room window_long (s * p.n + i) (omega (arith, mul-le-mul_right p.n past))
          ∙ sym (ap₂ (λ (c d : Bool). pick c (pick d (less p.q (view p.n residual s i) (times_g (code_of p) x (s - j) i))
          (view p.n residual s i)) (view p.n residual s i))
          (le-leb j s a) (lt-leb (s - j) p.m far))
      at (no a) b =
          let past : s < j = omega arith in
          put_before (j * p.n) (window_length p) residual window' residual_room window_long (s * p.n + i) (digits_lt past e)
          ∙ sym (ap (λ (c : Bool). pick c (pick (leb (s - j) p.m) (less p.q (view p.n residual s i) (times_g (code_of p) x (s - j) i))
          (view p.n residual s i)) (view p.n residual s i))
          (lt-leb j s past))

  pub adjusted_exact : Adjusted p T unknown j r v message residual (set message (j * p.k + r) w) (put_mid (j * p.n) (window_length p) residual window')
  unfolding h residual'
  adjusted_exact =
      record {
        revised = record {
          areas = record {
            message_long = length-set message (j * p.k + r) w ∙ A.message_long;
            message_symbols = h_symbols;
            residual_long = put_length (j * p.n) (window_length p) residual window' residual_room window_long ∙ A.residual_long;
            residual_symbols = λ e. put_symbols (j * p.n) (window_length p) residual window' p.q (A.residual_symbols e)
                (L.symbols (symbols_take p.q (window_length p) (drop (j * p.n) residual) (symbols_drop p.q (j * p.n) residual (A.residual_symbols e))));
          };
          before = λ a l. get_or-set_other message (j * p.k + r) a w 0 (omega arith);
          is_residual = λ reception is_residual. residual_step p S T reception message residual h residual'
              message_below
              (symbol_below p.q h h_symbols (positive p S)) is_residual (only r v) only_below j placed others changed;
        };
        added = ap (set message (j * p.k + r)) sum;
      }

-- The same with the sizes as the code computes them.
pub adjusted : (p : Setting) → Sound p → (T unknown j r v : ℕ) (message residual : List ℕ) → FrameAreas p T unknown message residual → j < T → r < p.k → v < p.q
    → (w : ℕ) → w ≡ (ops_of p.q).add (get_or message (j * p.k + r) 0) v → (u : ℕ) → u < p.q → (ops_of p.q).add v u ≡ 0 → (size : ℕ) → size ≡ window_length p → (window' : List ℕ)
    → RowsAdded p r u (take (j * p.n + size - j * p.n) (drop (j * p.n) residual)) window'
    → Adjusted p T unknown j r v message residual (set message (j * p.k + r) w) (put_mid (j * p.n) (j * p.n + size - j * p.n) residual window')
adjusted p S T unknown j r v message residual A lj lr lv w sum u lu opposite size is window' =
    let wide : j * p.n + size - j * p.n ≡ window_length p = omega (arith, is) in
    subst (λ (t : ℕ). RowsAdded p r u (take t (drop (j * p.n) residual)) window'
    → Adjusted p T unknown j r v message residual (set message (j * p.k + r) w) (put_mid (j * p.n) t residual window')) (sym wide)
    (adjusted_exact p S T unknown j r v message residual A lj lr lv w sum u lu opposite window')

-- The first r symbols of the information block x were added to block j.
pub record Adding (p : Setting) (T unknown j : ℕ) (x : ℕ → ℕ) (r : ℕ) (message residual message' residual' : List ℕ) : Type 0 where
  pub revised : Revised p T unknown j message residual message' residual'
  pub symbol : (a : ℕ) → a < r → get_or message' (j * p.k + a) 0 ≡ (ops_of p.q).add (get_or message (j * p.k + a) 0) (x a)
  pub rest : (a : ℕ) → j * p.k + r ≤ a → get_or message' a 0 ≡ get_or message a 0

module _ {p : Setting} {T unknown j : ℕ} {x : ℕ → ℕ} {message residual : List ℕ} where
  -- A zero symbol changes nothing.
  pub adding_zero : (S : Sound p) {r : ℕ} {message' residual' : List ℕ} → FrameAreas p T unknown message residual
      → Adding p T unknown j x r message residual message' residual' → x r ≡ 0 → Adding p T unknown j x (r + 1) message residual message' residual'
  adding_zero S {r} {message'} A D e =
      record { revised = D.revised; symbol = λ a l. at a (ℕ_discrete a r) l; rest = λ a l. D.rest a (omega arith) }
    where
      at : (a : ℕ) → Dec (a ≡ r) → a < r + 1 → get_or message' (j * p.k + a) 0 ≡ (ops_of p.q).add (get_or message (j * p.k + a) 0) (x a)
      at a (yes s) l =
          let past : j * p.k + r ≤ j * p.k + a = omega arith in
          D.rest (j * p.k + a) past
          ∙ sym ((laws p S).plus_zero (get_or message (j * p.k + a) 0) (symbol_below p.q message A.message_symbols (positive p S) (j * p.k + a)))
          ∙ ap ((ops_of p.q).add (get_or message (j * p.k + a) 0)) (sym (ap x s ∙ e))
      at a (no d) l = D.symbol a (omega arith)

  pub adding_more : {r v : ℕ} {message' residual' message'' residual'' : List ℕ} → j < T → r < p.k
      → Adding p T unknown j x r message residual message' residual' → Adjusted p T unknown j r v message' residual' message'' residual'' → v ≡ x r
      → Adding p T unknown j x (r + 1) message residual message'' residual''
  adding_more {r} {message' = message'} {residual' = residual'} {message'' = message''} lj lr D B e =
      record {
        revised = revised_then D.revised B.revised (omega arith);
        symbol = λ a l. ap (λ (t : List ℕ). get_or t (j * p.k + a) 0) B.added
            ∙ stored message' (λ b. j * p.k + b) (λ b. (ops_of p.q).add (get_or message (j * p.k + b) 0) (x b)) r _
            (symbol_room p T unknown j r message' residual' D.revised.areas lj lr) (ap₂ (ops_of p.q).add (D.rest (j * p.k + r) (omega arith)) e)
            (λ b h. omega arith) D.symbol a l;
        rest = λ a l. ap (λ (t : List ℕ). get_or t a 0) B.added ∙ get_or-set_other message' (j * p.k + r) a _ 0 (omega arith) ∙ D.rest a (omega arith);
      }

  -- All k symbols were added.
  pub adding_all : {r : ℕ} {message' residual' : List ℕ} → Adding p T unknown j x r message residual message' residual' → p.k ≤ r
      → Added p T unknown j x message residual message' residual'
  adding_all D all = record { revised = D.revised; symbol = λ a l u. D.symbol a (omega arith) }

  -- A zero block changes nothing.
  pub added_zero : Sound p → FrameAreas p T unknown message residual → ((r : ℕ) → x r ≡ 0) → Added p T unknown j x message residual message residual
  added_zero S A zeros =
      record {
        revised = revised_none A;
        symbol = λ r l u. sym (ap ((ops_of p.q).add (get_or message (j * p.k + r) 0)) (zeros r)
            ∙ (laws p S).plus_zero (get_or message (j * p.k + r) 0) (symbol_below p.q message A.message_symbols (positive p S) (j * p.k + r)));
      }

  -- The block is known by its k symbols.
  pub added_same : {y : ℕ → ℕ} {message' residual' : List ℕ} → Added p T unknown j x message residual message' residual' → ((r : ℕ) → r < p.k → x r ≡ y r)
      → Added p T unknown j y message residual message' residual'
  added_same D same =
      record { revised = D.revised; symbol = λ r l u. D.symbol r l u ∙ ap ((ops_of p.q).add (get_or message (j * p.k + r) 0)) (same r u) }

  -- Later changes leave block j as it is.
  pub added_then : {i : ℕ} {message' residual' message'' residual'' : List ℕ}
      → Added p T unknown j x message residual message' residual' → Revised p T unknown i message' residual' message'' residual'' → j + 1 ≤ i
      → Added p T unknown j x message residual message'' residual''
  added_then D B later =
      record {
        revised = revised_then D.revised B (omega arith);
        symbol = λ a l u. B.before (j * p.k + a) (omega (arith, mul-le-mul_right p.k later)) ∙ D.symbol a l u;
      }
