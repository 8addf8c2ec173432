-- The residual of a message g in a reception, on bytes: what one window of it says of a message that fits.
-- Holds: `ahead`, `add_back`, `plus_opposite`, `ahead_below`; `residual_window`, `residual_zero`.
use mathlib.Core.Path.{◌≡◌, refl, sym, ap, ap₂, fun_ext, ◌∙◌}
use mathlib.Core.List.{List}
use Prim.Native.Nat.{ℕ, suc, ◌+◌, ◌*◌, ◌≤◌, ◌<◌}
use native.Mathlib.Omega.{arith}
use lib.Arith.{digits_lt}
use lib.ListN.{length, get_or}
use Rattle.algebra.specs.Ops.{sub, pick}
use Rattle.algebra.proofs.Laws.{sub_self, add_of_sub, neg_unique, neg_mul}
use Rattle.algebra.proofs.Weights.{total_ext}
use Rattle.algebra.proofs.Below.{Element, number, number_injective, element, number_element}
use Rattle.area.specs.Lists.{view}
use Rattle.area.proofs.Lists.{window_view}
use Rattle.field.specs.Fields.{ops_of}
use Rattle.field.specs.Symbols.{is_unknown}
use Rattle.field.proofs.Symbols.{symbol_below}
use Rattle.code.specs.declared.Setting.{Setting}
use Rattle.code.specs.Transmission.{sent_symbol}
use Rattle.code.specs.Level.{combination}
use Rattle.code.specs.parts.Cost.{symbol_cost, cost_to, block_cost, rebuilt_cost, window_cost, zero_cost, message_cost}
use Rattle.code.specs.Settings.{code_of}
use Rattle.code.specs.parts.Sound.{Sound}
use Rattle.code.specs.Windows.{Message}
use Rattle.code.specs.parts.InformationBlocks.{BlocksBelow}
use Rattle.code.specs.parts.Residual.{less, plus, IsResidual, frame_length, window_at}
use Rattle.code.proofs.Blocks.{combination_ext}
use Rattle.code.proofs.Differences.{sent_sub, sent_ahead}
use Rattle.code.proofs.CodeBelow.{positive, field_of, root_of, over_field, keeps, number_zero, number_sub, lifted, number_lifted, sent_number}
use Rattle.code.proofs.CodeBelow.{combination_number, message_below, sent_below}
use Rattle.code.proofs.Cost.{cost_shift, sub_below}
use Rattle.code.proofs.WindowBelow.{zero_cost_lem}
use Rattle.code.proofs.FrameWindows.{window_inside, length_window_at}

-- Information blocks of x less those of g, from block j on.
abbrev pub ahead : Setting → List ℕ → List ℕ → ℕ → ℕ → ℕ → ℕ
ahead p x g j s r = sub (ops_of p.q) (view p.k x (j + s) r) (view p.k g (j + s) r)

module _ (p : Setting) (S : Sound p) where
  -- Adding u × x takes v × x out, where v + u = 0.
  add_opposite : (a v u x : ℕ) → v < p.q → u < p.q → x < p.q → (ops_of p.q).add v u ≡ 0
      → (ops_of p.q).add a ((ops_of p.q).mul u x) ≡ sub (ops_of p.q) a ((ops_of p.q).mul v x)
  add_opposite a v u x lv lu lx e =
      let K = field_of p S in
      let opposite : (u, lu) ≡ K.ops.neg (v, lv) =
      neg_unique K (v, lv) (u, lu) (number_injective _ _ ((keeps p S).on_add (v, lv) (u, lu) ∙ e ∙ sym (number_zero p S))) in
      ap ((ops_of p.q).add a) (sym ((keeps p S).on_mul (u, lu) (x, lx)) ∙ ap (λ (t : Element p.q). number (K.ops.mul t (x, lx))) opposite
      ∙ ap number (neg_mul K (v, lv) (x, lx))
      ∙ (keeps p S).on_neg (K.ops.mul (v, lv) (x, lx)) ∙ ap (ops_of p.q).neg ((keeps p S).on_mul (v, lv) (x, lx)))

  -- The same of a received byte.
  pub plus_opposite : (a v u x : ℕ) → v < p.q → u < p.q → x < p.q → (ops_of p.q).add v u ≡ 0
      → plus p.q a ((ops_of p.q).mul u x) ≡ less p.q a ((ops_of p.q).mul v x)
  plus_opposite a v u x lv lu lx e = ap (pick (is_unknown p.q a) a) (add_opposite a v u x lv lu lx e)

  -- b + (a - b) = a
  pub add_back : (a b : ℕ) → a < p.q → b < p.q → (ops_of p.q).add b (sub (ops_of p.q) a b) ≡ a
  add_back a b la lb =
      sym (ap₂ (ops_of p.q).add same_b (number_sub p S a' b' ∙ ap₂ (sub (ops_of p.q)) same_a same_b))
      ∙ sym ((keeps p S).on_add b' (sub (field_of p S).ops a' b'))
      ∙ ap number (sym (add_of_sub (field_of p S) a' b' (sub (field_of p S).ops a' b') refl))
      ∙ same_a
    where
      a' : Element p.q
      a' = element p.q (positive p S) a

      b' : Element p.q
      b' = element p.q (positive p S) b

      same_a : number a' ≡ a
      same_a = number_element p.q (positive p S) a la

      same_b : number b' ≡ b
      same_b = number_element p.q (positive p S) b lb

  pub ahead_below : (x g : List ℕ) (j : ℕ) → ((i : ℕ) → get_or x i 0 < p.q) → ((i : ℕ) → get_or g i 0 < p.q) → BlocksBelow p.q (ahead p x g j)
  ahead_below x g j X G s r = sub_below p S _ _ (X ((j + s) * p.k + r)) (G ((j + s) * p.k + r))

  module _ (T : ℕ) (reception g residual : List ℕ) (G : (i : ℕ) → get_or g i 0 < p.q)
      (is_residual : IsResidual p T reception g residual) where
    module _ (x : List ℕ) (X : Message p T x) (j : ℕ) (l : j < T) (agree : (i : ℕ) → i < j * p.k → get_or x i 0 ≡ get_or g i 0) where
      x' : ℕ → ℕ → Element p.q
      x' = lifted p S (view p.k x)

      g' : ℕ → ℕ → Element p.q
      g' = lifted p S (view p.k g)

      ahead_small : BlocksBelow p.q (ahead p x g j)
      ahead_small = ahead_below x g j (symbol_below p.q x X.symbols (positive p S)) G

      ahead_element : (s r : ℕ) → lifted p S (ahead p x g j) s r ≡ sub (field_of p S).ops (x' (j + s) r) (g' (j + s) r)
      unfolding x' g'
      ahead_element s r =
          number_injective _ _
          (number_lifted p S (ahead p x g j) s r (ahead_small s r)
          ∙ sym (number_sub p S (x' (j + s) r) (g' (j + s) r)
          ∙ ap₂ (sub (ops_of p.q)) (number_lifted p S (view p.k x) (j + s) r (message_below p S T x X (j + s) r))
          (number_lifted p S (view p.k g) (j + s) r (G ((j + s) * p.k + r)))))

      before : (s r : ℕ) → s < j → r < p.k → sub (field_of p S).ops (x' s r) (g' s r) ≡ (field_of p S).ops.zero
      unfolding x' g' lifted
      before s r u v =
          ap (λ (t : ℕ). sub (field_of p S).ops (element p.q (positive p S) t) (g' s r)) (agree (s * p.k + r) (digits_lt u v))
          ∙ sub_self (field_of p S) (g' s r)

      -- What x has beyond g combines to what x sends less what g sends.
      ahead_sent : (s i : ℕ) → s ≤ p.m
          → combination (code_of p) s (ahead p x g j) i ≡ sub (ops_of p.q) (sent_symbol (code_of p) (view p.k x) (j + s) i)
          (sent_symbol (code_of p) (view p.k g) (j + s) i)
      unfolding x' g'
      ahead_sent s i low =
          sym (combination_number p S (ahead p x g j) s i (λ b r u v. ahead_small b r))
          ∙ ap number (combination_ext (over_field p S) s (lifted p S (ahead p x g j)) (λ t r. sub (field_of p S).ops (x' (j + t) r) (g' (j + t) r)) i
          (λ t r u v. ahead_element t r)
          ∙ sym (sent_ahead (field_of p S) (root_of p S) p.n p.k p.m (λ t r. sub (field_of p S).ops (x' t r) (g' t r)) j s i low before)
          ∙ sym (sent_sub (field_of p S) (root_of p S) p.n p.k p.m x' g' (j + s) i))
          ∙ number_sub p S (sent_symbol (over_field p S) x' (j + s) i) (sent_symbol (over_field p S) g' (j + s) i)
          ∙ ap₂ (sub (ops_of p.q)) (sent_number p S (view p.k x) (message_below p S T x X) (j + s) i)
          (sent_number p S (view p.k g) (λ b r. G (b * p.k + r)) (j + s) i)

      -- Window j of the residual costs against what x has beyond g what window j of the reception costs where x was sent.
      pub residual_window : window_cost p (window_at p residual j) p.m (ahead p x g j) ≡ message_cost p reception x j
      unfolding rebuilt_cost block_cost cost_to
      residual_window =
          total_ext (suc p.m) _ _ (λ s h. total_ext p.n _ _ (λ i u.
          ap₂ (symbol_cost p.q) (window_view p.n p.m residual j s i (omega arith) u ∙ is_residual.symbol (j + s) i (omega arith) u)
          (ahead_sent s i (omega arith))
          ∙ cost_shift p S (view p.n reception (j + s) i) (sent_symbol (code_of p) (view p.k x) (j + s) i) (sent_symbol (code_of p) (view p.k g) (j + s) i)
          (sent_below p S (view p.k x) (message_below p S T x X) (j + s) i)
          (sent_below p S (view p.k g) (λ b r. G (b * p.k + r)) (j + s) i)))

    -- Its cost against zeros is the cost where g itself was sent.
    pub residual_zero : Message p T g → length residual ≡ frame_length p T → (j : ℕ) → j < T
        → zero_cost p.q (window_at p residual j) ≡ message_cost p reception g j
    residual_zero M long j l =
        zero_cost_lem p S (window_at p residual j) (length_window_at p residual j (omega (arith, window_inside p T j l, long)))
        ∙ ap (window_cost p (window_at p residual j) p.m) (sym (fun_ext (λ s. fun_ext (λ r. nothing ((j + s) * p.k + r)))))
        ∙ residual_window g M j l (λ i u. refl)
      where
        nothing : (i : ℕ) → sub (ops_of p.q) (get_or g i 0) (get_or g i 0) ≡ 0
        nothing i = sym (number_sub p S (get_or g i 0, G i) (get_or g i 0, G i)) ∙ ap number (sub_self (field_of p S) (get_or g i 0, G i)) ∙ number_zero p S
