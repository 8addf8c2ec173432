-- The residual of a message g in a reception, on bytes: what it holds at the end, how it changes when a block of g is changed, and how it begins.
-- Holds: `times_g_only`; `residual_below`, `residual_back`, `residual_is_unknown`, `residual_test`; `lessened`, `residual_step`; `residual_start`.
use mathlib.Core.Path.{◌≡◌, refl, sym, ap, ap₂, subst, ◌∙◌}
use mathlib.Core.Bool.{Bool, true, false, not, ◌&&◌}
use mathlib.Core.List.{List}
use Prim.Native.Nat.{ℕ, suc, ◌+◌, ◌-◌, ◌*◌, ◌≤◌, ◌<◌}
use native.Mathlib.Omega.{arith}
use native.Mathlib.Decide.{dec_le, dec_lt, ℕ_discrete}
use lib.Dec.{eqb, leb}
use lib.ListN.{get_or}
use borrow.Author.Tests.{le-leb, lt-leb, eq-eqb, ne_eqb}
use Rattle.algebra.specs.Ops.{sub, pick}
use Rattle.algebra.proofs.Laws.{sub_self, eq_of_sub, add_of_sub, sub_add, sub_sub, neg_zero, add-zero, add_comm, add_assoc, add_neg, zero-mul}
use Rattle.algebra.proofs.Sums.{sum_ext, sum_single}
use Rattle.algebra.proofs.Below.{Element, number, number_injective, element, number_element}
use Rattle.area.specs.Lists.{view}
use Rattle.field.specs.Fields.{ops_of}
use Rattle.field.specs.Symbols.{is_unknown}
use Rattle.code.specs.declared.Setting.{Setting}
use Rattle.code.specs.Generator.{row_symbol, times_g}
use Rattle.code.specs.Transmission.{earlier, sent_symbol}
use Rattle.code.specs.Settings.{code_of}
use Rattle.code.specs.parts.Sound.{Sound}
use Rattle.code.specs.parts.InformationBlocks.{only}
use Rattle.code.specs.parts.Residual.{less, IsResidual}
use Rattle.code.proofs.Blocks.{times_g_ext}
use Rattle.code.proofs.Differences.{sent_sub, sent_zeros}
use Rattle.code.proofs.Window.{contribution, single, sent_single}
use Rattle.code.proofs.CodeBelow.{laws, positive, field_of, root_of, over_field, keeps, number_zero, number_sub, lifted, number_lifted, sent_number, sent_below}
use Rattle.code.proofs.CodeBelow.{times_g_number, row_symbol_number}
use Rattle.code.proofs.Cost.{unknown_byte, known_byte, less_unknown, less_known, sub_below}

module _ (p : Setting) (S : Sound p) where
  -- The same information blocks send the same symbols, over any field: only symbols below k count.
  sent_ext : (u v : ℕ → ℕ → Element p.q) → ((s r : ℕ) → r < p.k → u s r ≡ v s r) → (s i : ℕ)
      → sent_symbol (over_field p S) u s i ≡ sent_symbol (over_field p S) v s i
  unfolding sent_symbol
  sent_ext u v same s i =
      sum_ext (field_of p S).ops (suc p.m) _ _ (λ j h. times_g_ext (over_field p S)
      (earlier (field_of p S).ops u s j) (earlier (field_of p S).ops v s j) j i (λ r l. at (leb j s) j r l))
    where
      at : (b : Bool) (j r : ℕ) → r < p.k → pick b (u (s - j) r) (field_of p S).ops.zero ≡ pick b (v (s - j) r) (field_of p S).ops.zero
      at true j r l = same (s - j) r l
      at false j r l = refl

  -- One information symbol sends its multiple of a row.
  pub times_g_only : (r v j i : ℕ) → r < p.k → v < p.q → times_g (code_of p) (only r v) j i ≡ (ops_of p.q).mul v (row_symbol (code_of p) j r i)
  unfolding times_g
  times_g_only r v j i l below =
      sym (times_g_number p S (only r v) (λ a. at_below (eqb a r)) j i)
      ∙ ap number (sum_single (field_of p S) p.k r terms l (λ a h d.
      ap (λ (t : Bool). (field_of p S).ops.mul (element p.q (positive p S) (pick t v 0)) (row_symbol (over_field p S) j a i)) (ne_eqb a r d)
      ∙ ap (λ (t : Element p.q). (field_of p S).ops.mul t (row_symbol (over_field p S) j a i)) zero_element
      ∙ zero-mul (field_of p S) (row_symbol (over_field p S) j a i)))
      ∙ (keeps p S).on_mul (element p.q (positive p S) (only r v r)) (row_symbol (over_field p S) j r i)
      ∙ ap₂ (ops_of p.q).mul
      (ap (λ (t : Bool). number (element p.q (positive p S) (pick t v 0))) (eq-eqb r r refl) ∙ number_element p.q (positive p S) v below)
      (row_symbol_number p S j r i)
    where
      terms : ℕ → Element p.q
      terms a = (field_of p S).ops.mul (element p.q (positive p S) (only r v a)) (row_symbol (over_field p S) j a i)

      zero_element : element p.q (positive p S) 0 ≡ (field_of p S).ops.zero
      zero_element = number_injective _ _ (number_element p.q (positive p S) 0 (positive p S) ∙ sym (number_zero p S))

      at_below : (t : Bool) → pick t v 0 < p.q
      at_below true = below
      at_below false = positive p S

  -- One symbol of the residual of g: of a known symbol what was sent is taken out, and an unknown one stays.
  module _ (T : ℕ) (reception g residual : List ℕ) (G : (i : ℕ) → get_or g i 0 < p.q) (is_residual : IsResidual p T reception g residual)
      (s i : ℕ) (l : s < T + p.m) (u : i < p.n) where
    residual_unknown : p.q ≤ view p.n reception s i → view p.n residual s i ≡ view p.n reception s i
    residual_unknown past = is_residual.symbol s i l u ∙ less_unknown p.q _ _ past

    module _ (known : view p.n reception s i < p.q) where
      residual_known : view p.n residual s i ≡ sub (ops_of p.q) (view p.n reception s i) (sent_symbol (code_of p) (view p.k g) s i)
      residual_known = is_residual.symbol s i l u ∙ less_known p.q _ _ known

      pub residual_below : view p.n residual s i < p.q
      residual_below =
          subst (λ (t : ℕ). t < p.q) (sym residual_known) (sub_below p S _ _ known (sent_below p S (view p.k g) (λ b r. G (b * p.k + r)) s i))

      received : Element p.q
      received = lifted p S (view p.n reception) s i

      sent : Element p.q
      sent = sent_symbol (over_field p S) (lifted p S (view p.k g)) s i

      number_received : number received ≡ view p.n reception s i
      unfolding received
      number_received = number_lifted p S (view p.n reception) s i known

      number_sent : number sent ≡ sent_symbol (code_of p) (view p.k g) s i
      unfolding sent
      number_sent = sent_number p S (view p.k g) (λ b r. G (b * p.k + r)) s i

      number_residual : number (sub (field_of p S).ops received sent) ≡ view p.n residual s i
      number_residual = number_sub p S received sent ∙ ap₂ (sub (ops_of p.q)) number_received number_sent ∙ sym residual_known

      -- The reception less the residual is the transmission.
      pub residual_back : sub (ops_of p.q) (view p.n reception s i) (view p.n residual s i) ≡ sent_symbol (code_of p) (view p.k g) s i
      residual_back =
          sym (ap₂ (sub (ops_of p.q)) number_received number_residual) ∙ sym (number_sub p S received (sub (field_of p S).ops received sent))
          ∙ ap number (sub_sub (field_of p S) received sent) ∙ number_sent

      -- The residual is zero just where the reception holds the sent symbol.
      zero_test : eqb (view p.n reception s i) (sent_symbol (code_of p) (view p.k g) s i) ≡ eqb (view p.n residual s i) 0
      zero_test = at (ℕ_discrete (view p.n reception s i) (sent_symbol (code_of p) (view p.k g) s i))
        where
          at : Dec (view p.n reception s i ≡ sent_symbol (code_of p) (view p.k g) s i)
              → eqb (view p.n reception s i) (sent_symbol (code_of p) (view p.k g) s i) ≡ eqb (view p.n residual s i) 0
          at (yes e) =
              eq-eqb _ _ e ∙ sym (eq-eqb _ _ (sym number_residual
              ∙ (ap (λ (a : Element p.q). number (sub (field_of p S).ops a sent)) (number_injective received sent (number_received ∙ e ∙ sym number_sent))
              ∙ ap number (sub_self (field_of p S) sent) ∙ number_zero p S)))
          at (no d) =
              ne_eqb _ _ d ∙ sym (ne_eqb _ _ (λ z. d (sym number_received
              ∙ (ap number (eq_of_sub (field_of p S) received sent (number_injective _ _ (number_residual ∙ z ∙ sym (number_zero p S)))) ∙ number_sent))))

    -- A symbol is known in both or in neither.
    pub residual_is_unknown : is_unknown p.q (view p.n residual s i) ≡ is_unknown p.q (view p.n reception s i)
    residual_is_unknown = at (dec_lt (view p.n reception s i) p.q)
      where
        at : Dec (view p.n reception s i < p.q) → is_unknown p.q (view p.n residual s i) ≡ is_unknown p.q (view p.n reception s i)
        at (yes known) = known_byte (residual_below known) ∙ sym (known_byte known)
        at (no d) = ap (is_unknown p.q) (residual_unknown (omega arith))

    -- A known symbol was altered just where the residual is known and not zero.
    pub residual_test : (not (is_unknown p.q (view p.n reception s i)) && not (eqb (view p.n reception s i) (sent_symbol (code_of p) (view p.k g) s i)))
        ≡ (not (is_unknown p.q (view p.n residual s i)) && not (eqb (view p.n residual s i) 0))
    residual_test = at (dec_lt (view p.n reception s i) p.q)
      where
        at : Dec (view p.n reception s i < p.q)
            → (not (is_unknown p.q (view p.n reception s i)) && not (eqb (view p.n reception s i) (sent_symbol (code_of p) (view p.k g) s i)))
            ≡ (not (is_unknown p.q (view p.n residual s i)) && not (eqb (view p.n residual s i) 0))
        at (yes known) = ap₂ (λ (a b : Bool). not a && not b) (sym residual_is_unknown) (zero_test known)
        at (no d) =
            let past : p.q ≤ view p.n reception s i = omega arith in
            ap (λ (t : Bool). not t && not (eqb (view p.n reception s i) (sent_symbol (code_of p) (view p.k g) s i))) (unknown_byte past)
            ∙ sym (ap (λ (t : Bool). not t && not (eqb (view p.n residual s i) 0)) (residual_is_unknown ∙ unknown_byte past))

  -- What information block x at block j of the message contributes, taken out of the residual.
  abbrev pub lessened : List ℕ → (ℕ → ℕ) → ℕ → ℕ → ℕ → ℕ
  lessened residual x j s i =
      pick (leb j s) (pick (leb (s - j) p.m) (less p.q (view p.n residual s i) (times_g (code_of p) x (s - j) i)) (view p.n residual s i))
      (view p.n residual s i)

  -- Nothing is taken out of an unknown symbol.
  lessened_unknown : (residual : List ℕ) (x : ℕ → ℕ) (j s i : ℕ) → p.q ≤ view p.n residual s i → lessened residual x j s i ≡ view p.n residual s i
  lessened_unknown residual x j s i past = at (leb j s) (leb (s - j) p.m)
    where
      at : (a b : Bool) → pick a (pick b (less p.q (view p.n residual s i) (times_g (code_of p) x (s - j) i)) (view p.n residual s i)) (view p.n residual s i)
          ≡ view p.n residual s i
      at true true = less_unknown p.q _ _ past
      at true false = refl
      at false b = refl

  -- Out of a known one x's contribution is.
  lessened_known : (residual : List ℕ) (x : ℕ → ℕ) (j s i : ℕ) → view p.n residual s i < p.q
      → lessened residual x j s i
      ≡ pick (leb j s) (pick (leb (s - j) p.m) (sub (ops_of p.q) (view p.n residual s i) (times_g (code_of p) x (s - j) i)) (view p.n residual s i))
      (view p.n residual s i)
  lessened_known residual x j s i known =
      ap (λ (t : ℕ). pick (leb j s) (pick (leb (s - j) p.m) t (view p.n residual s i)) (view p.n residual s i)) (less_known p.q _ _ known)

  module _ (T : ℕ) (reception g residual h residual' : List ℕ) (G : (i : ℕ) → get_or g i 0 < p.q)
      (H : (i : ℕ) → get_or h i 0 < p.q) (is_residual : IsResidual p T reception g residual) (x : ℕ → ℕ) (X : (r : ℕ) → x r < p.q) (j : ℕ)
      (placed : (r : ℕ) → r < p.k → view p.k h j r ≡ (ops_of p.q).add (view p.k g j r) (x r))
      (others : (s r : ℕ) → (s ≡ j → ⊥) → r < p.k → view p.k h s r ≡ view p.k g s r) where
    x' : ℕ → Element p.q
    x' r = element p.q (positive p S) (x r)

    differs : (s r : ℕ) → r < p.k
        → sub (field_of p S).ops (lifted p S (view p.k h) s r) (lifted p S (view p.k g) s r) ≡ single (field_of p S) (root_of p S) p.n p.k
        p.m x' j s r
    unfolding lifted x'
    differs s r l = at (ℕ_discrete s j)
      where
        zero : Element p.q
        zero = (field_of p S).ops.zero

        element_add : (a b : ℕ) → a < p.q → b < p.q
            → element p.q (positive p S) ((ops_of p.q).add a b) ≡ (field_of p S).ops.add (element p.q (positive p S) a) (element p.q (positive p S) b)
        element_add a b la lb =
            number_injective _ _
            (number_element p.q (positive p S) ((ops_of p.q).add a b) ((laws p S).add_below a b la lb)
            ∙ sym ((keeps p S).on_add (element p.q (positive p S) a) (element p.q (positive p S) b)
            ∙ ap₂ (ops_of p.q).add (number_element p.q (positive p S) a la) (number_element p.q (positive p S) b lb)))

        take_away : (a b : Element p.q) → sub (field_of p S).ops ((field_of p S).ops.add a b) a ≡ b
        take_away a b =
            ap (λ (t : Element p.q). (field_of p S).ops.add t ((field_of p S).ops.neg a)) (add_comm (field_of p S) a b)
            ∙ add_assoc (field_of p S) b a ((field_of p S).ops.neg a)
            ∙ ap ((field_of p S).ops.add b) (add_neg (field_of p S) a)
            ∙ add-zero (field_of p S) b

        at : Dec (s ≡ j) → sub (field_of p S).ops (element p.q (positive p S) (view p.k h s r))
            (element p.q (positive p S) (view p.k g s r)) ≡ pick (eqb s j) (x' r) zero
        at (yes e) =
            ap₂ (λ (a b : ℕ). sub (field_of p S).ops (element p.q (positive p S) a) (element p.q (positive p S) b))
            (ap (λ (t : ℕ). view p.k h t r) e ∙ placed r l) (ap (λ (t : ℕ). view p.k g t r) e)
            ∙ ap (λ (t : Element p.q). sub (field_of p S).ops t (element p.q (positive p S) (view p.k g j r)))
            (element_add (view p.k g j r) (x r) (G (j * p.k + r)) (X r))
            ∙ take_away (element p.q (positive p S) (view p.k g j r)) (x' r)
            ∙ sym (ap (λ (t : Bool). pick t (x' r) zero) (eq-eqb s j e))
        at (no d) =
            ap (λ (a : ℕ). sub (field_of p S).ops (element p.q (positive p S) a) (element p.q (positive p S) (view p.k g s r))) (others s r d l)
            ∙ sub_self (field_of p S) (element p.q (positive p S) (view p.k g s r))
            ∙ sym (ap (λ (t : Bool). pick t (x' r) zero) (ne_eqb s j d))

    sent_less : (s i : ℕ)
        → sub (field_of p S).ops (sent_symbol (over_field p S) (lifted p S (view p.k h)) s i) (sent_symbol (over_field p S) (lifted p S (view p.k g)) s i)
        ≡ contribution (field_of p S) (root_of p S) p.n p.k p.m x' j s i
    sent_less s i =
        sent_sub (field_of p S) (root_of p S) p.n p.k p.m (lifted p S (view p.k h)) (lifted p S (view p.k g)) s i
        ∙ sent_ext _ (single (field_of p S) (root_of p S) p.n p.k p.m x' j) (λ b r l. differs b r l) s i
        ∙ sent_single (field_of p S) (root_of p S) p.n p.k p.m x' j s i

    -- The residual after x was added to block j of the message and its contribution taken out.
    pub residual_step : ((s i : ℕ) → s < T + p.m → i < p.n → view p.n residual' s i ≡ lessened residual x j s i) → IsResidual p T reception h residual'
    unfolding contribution x'
    residual_step changed =
        record { symbol = λ s i l u. changed s i l u ∙ by_symbol s i l u (dec_lt (view p.n reception s i) p.q) }
      where
        zero : Element p.q
        zero = (field_of p S).ops.zero

        w' : ℕ → ℕ → Element p.q
        w' = lifted p S (view p.n reception)

        before : ℕ → ℕ → Element p.q
        before s i = sub (field_of p S).ops (w' s i) (sent_symbol (over_field p S) (lifted p S (view p.k g)) s i)

        whole : (s i : ℕ) → view p.n reception s i < p.q → sub (ops_of p.q) (view p.n reception s i) (sent_symbol (code_of p) (view p.k h) s i)
            ≡ number (sub (field_of p S).ops (before s i) (contribution (field_of p S) (root_of p S) p.n p.k p.m x' j s i))
        whole s i known =
            sym (number_sub p S (w' s i) (sent_symbol (over_field p S) (lifted p S (view p.k h)) s i)
            ∙ ap₂ (sub (ops_of p.q)) (number_lifted p S (view p.n reception) s i known)
            (sent_number p S (view p.k h) (λ b r. H (b * p.k + r)) s i))
            ∙ ap (λ (t : Element p.q). number (sub (field_of p S).ops (w' s i) t)) (add_of_sub (field_of p S) _ _ _ (sent_less s i))
            ∙ ap number (sub_add (field_of p S) (w' s i) (sent_symbol (over_field p S) (lifted p S (view p.k g)) s i)
            (contribution (field_of p S) (root_of p S) p.n p.k p.m x' j s i))

        number_before : (s i : ℕ) → s < T + p.m → i < p.n → view p.n reception s i < p.q → number (before s i) ≡ view p.n residual s i
        number_before s i l u known =
            number_sub p S (w' s i) (sent_symbol (over_field p S) (lifted p S (view p.k g)) s i)
            ∙ ap₂ (sub (ops_of p.q)) (number_lifted p S (view p.n reception) s i known)
            (sent_number p S (view p.k g) (λ b r. G (b * p.k + r)) s i)
            ∙ sym (residual_known T reception g residual G is_residual s i l u known)

        unchanged : (s i : ℕ) → s < T + p.m → i < p.n → view p.n reception s i < p.q → view p.n residual s i ≡ number (sub (field_of p S).ops (before s i) zero)
        unchanged s i l u known =
            sym (number_before s i l u known) ∙ ap number (sym
            (ap ((field_of p S).ops.add (before s i)) (neg_zero (field_of p S)) ∙ add-zero (field_of p S) (before s i)))

        at : (s i : ℕ) → s < T + p.m → i < p.n → view p.n reception s i < p.q → Dec (j ≤ s) → Dec (s - j ≤ p.m)
            → pick (leb j s) (pick (leb (s - j) p.m) (sub (ops_of p.q) (view p.n residual s i) (times_g (code_of p) x (s - j) i)) (view p.n residual s i))
            (view p.n residual s i) ≡ number (sub (field_of p S).ops (before s i) (contribution (field_of p S) (root_of p S) p.n p.k p.m x' j s i))
        at s i l u known (yes a) (yes b) =
            ap₂ (λ (c d : Bool). pick c (pick d (sub (ops_of p.q) (view p.n residual s i) (times_g (code_of p) x (s - j) i)) (view p.n residual s i))
            (view p.n residual s i))
            (le-leb j s a) (le-leb (s - j) p.m b)
            ∙ sym (ap₂ (λ (c d : Bool). number (sub (field_of p S).ops (before s i) (pick c (pick d (times_g (over_field p S) x' (s - j) i) zero) zero)))
            (le-leb j s a) (le-leb (s - j) p.m b)
            ∙ number_sub p S (before s i) (times_g (over_field p S) x' (s - j) i)
            ∙ ap₂ (sub (ops_of p.q)) (number_before s i l u known) (times_g_number p S x X (s - j) i))
        at s i l u known (yes a) (no b) =
            let past : p.m < s - j = omega arith in
            ap₂ (λ (c d : Bool). pick c (pick d (sub (ops_of p.q) (view p.n residual s i) (times_g (code_of p) x (s - j) i)) (view p.n residual s i))
            (view p.n residual s i))
            (le-leb j s a) (lt-leb (s - j) p.m past)
            ∙ unchanged s i l u known
            ∙ sym (ap₂ (λ (c d : Bool). number (sub (field_of p S).ops (before s i) (pick c (pick d (times_g (over_field p S) x' (s - j) i) zero) zero)))
            (le-leb j s a) (lt-leb (s - j) p.m past))
        at s i l u known (no a) b =
            let past : s < j = omega arith in
            ap (λ (c : Bool). pick c (pick (leb (s - j) p.m) (sub (ops_of p.q) (view p.n residual s i) (times_g (code_of p) x (s - j) i))
            (view p.n residual s i)) (view p.n residual s i))
            (lt-leb j s past)
            ∙ unchanged s i l u known
            ∙ sym (ap (λ (c : Bool). number (sub (field_of p S).ops (before s i)
            (pick c (pick (leb (s - j) p.m) (times_g (over_field p S) x' (s - j) i) zero) zero)))
            (lt-leb j s past))

        by_symbol : (s i : ℕ) → s < T + p.m → i < p.n → Dec (view p.n reception s i < p.q)
            → lessened residual x j s i ≡ less p.q (view p.n reception s i) (sent_symbol (code_of p) (view p.k h) s i)
        by_symbol s i l u (yes known) =
            lessened_known residual x j s i (residual_below T reception g residual G is_residual s i l u known)
            ∙ at s i l u known (dec_le j s) (dec_le (s - j) p.m) ∙ sym (less_known p.q _ _ known ∙ whole s i known)
        by_symbol s i l u (no d) =
            let past : p.q ≤ view p.n reception s i = omega arith in
            let same : view p.n residual s i ≡ view p.n reception s i = residual_unknown T reception g residual G is_residual s i l u past in
            lessened_unknown residual x j s i (omega arith) ∙ same ∙ sym (less_unknown p.q _ _ past)

  -- The reception itself is the residual of the zero message.
  pub residual_start : (T : ℕ) (reception g : List ℕ) → ((i : ℕ) → get_or g i 0 ≡ 0)
      → IsResidual p T reception g reception
  unfolding lifted
  residual_start T reception g zeros =
      record { symbol = λ s i l u. sym (by_symbol s i (dec_lt (view p.n reception s i) p.q)) }
    where
      zero_element : (i : ℕ) → element p.q (positive p S) (get_or g i 0) ≡ (field_of p S).ops.zero
      zero_element i =
          ap (element p.q (positive p S)) (zeros i)
          ∙ number_injective _ _ (number_element p.q (positive p S) 0 (positive p S) ∙ sym (number_zero p S))

      sent_zero : (s i : ℕ) → sent_symbol (code_of p) (view p.k g) s i ≡ number (field_of p S).ops.zero
      sent_zero s i =
          sym (sent_number p S (view p.k g) (λ b r. subst (λ (t : ℕ). t < p.q) (sym (zeros (b * p.k + r))) (positive p S)) s i)
          ∙ ap number (sent_ext (lifted p S (view p.k g)) (λ b r. (field_of p S).ops.zero) (λ b r h. zero_element (b * p.k + r)) s i
          ∙ sent_zeros (field_of p S) (root_of p S) p.n p.k p.m s i)

      by_symbol : (s i : ℕ) → Dec (view p.n reception s i < p.q)
          → less p.q (view p.n reception s i) (sent_symbol (code_of p) (view p.k g) s i) ≡ view p.n reception s i
      by_symbol s i (no d) = less_unknown p.q _ _ (omega arith)
      by_symbol s i (yes known) =
          less_known p.q _ _ known
          ∙ ap₂ (sub (ops_of p.q)) (sym (number_lifted p S (view p.n reception) s i known)) (sent_zero s i)
          ∙ sym (number_sub p S (lifted p S (view p.n reception) s i) (field_of p S).ops.zero)
          ∙ ap number (ap ((field_of p S).ops.add (lifted p S (view p.n reception) s i)) (neg_zero (field_of p S))
          ∙ add-zero (field_of p S) (lifted p S (view p.n reception) s i))
          ∙ number_lifted p S (view p.n reception) s i known
