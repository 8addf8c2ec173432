-- The bridge for the code (see algebra/proofs/Below): what a setting's definitions give on numbers below q is what the abstract code gives on elements.
-- Holds: `transmission_long`; of the field: `laws`, `positive`, `field_of`, `root_of`, `order_at`, `over_field`, `keeps`, `number_zero`, `number_sub`,
-- `root_number`, `mapped_code`; of information: `lifted`, `number_lifted`, `lifted_same`, `message_below`, `message_blocks`; of symbols:
-- `sent_number`, `times_g_number`, `combination_number`, `ending_number`, `received`, `received_number`, `value_number`, `row_symbol_number`,
-- `row_symbol_below`; `transmission_view`, `transmission_length`, `sent_below`, `transmission_symbols`.
use mathlib.Core.Path.{◌≡◌, sym, ap, ap₂, subst, fun_ext, ◌∙◌}
use mathlib.Core.List.{List}
use Prim.Native.Nat.{ℕ, ◌+◌, ◌-◌, ◌*◌, ◌/◌, ◌%◌, ◌≤◌, ◌<◌}
use native.Mathlib.Omega.{arith}
use lib.Arith.{digits_div}
use lib.ListN.{length, get_or}
use Rattle.algebra.specs.Ops.{sub}
use Rattle.algebra.specs.Sum.{power}
use Rattle.algebra.specs.Polynomial.{value}
use Rattle.algebra.specs.parts.Values.{value_of}
use Rattle.algebra.proofs.Laws.{Field}
use Rattle.algebra.proofs.HasOrder.{HasOrder}
use Rattle.algebra.proofs.Polynomials.{value_of_ext, value_is_value_of}
use Rattle.algebra.proofs.Naturality.{Homomorphism, power_natural, value_of_natural}
use Rattle.algebra.proofs.Below.{Element, number, element, number_element, field_below, number_keeps, order_below, FieldBelow, positive as below_positive}
use Rattle.area.specs.Lists.{view}
use Rattle.area.proofs.Lists.{length_tabulate, get_d_tabulate, view_tabulate}
use Rattle.field.specs.Fields.{ops_of, alpha}
use Rattle.field.specs.Symbols.{Symbols}
use Rattle.field.proofs.Laws.{laws_of, order_of}
use Rattle.field.proofs.Symbols.{symbol_below}
use Rattle.code.specs.declared.Setting.{Setting}
use Rattle.code.specs.Code.{Code}
use Rattle.code.specs.Generator.{row_symbol, times_g}
use Rattle.code.specs.Transmission.{sent_symbol}
use Rattle.code.specs.Level.{combination}
use Rattle.code.specs.parts.Recovery.{ending}
use Rattle.code.specs.Settings.{code_of}
use Rattle.code.specs.Windows.{transmission, Message}
use Rattle.code.specs.parts.Sound.{Sound}
use Rattle.code.proofs.Blocks.{code_over, combination_ext}
use Rattle.code.proofs.Naturality.{mapped, row_symbol_natural, times_g_natural, sent_symbol_natural, combination_natural, ending_natural}

pub transmission_long : (p : Setting) (x : List ℕ) → length (transmission p x) ≡ (length x / p.k + p.m) * p.n
unfolding transmission
transmission_long p x = length_tabulate ((length x / p.k + p.m) * p.n) (λ s. sent_symbol (code_of p) (view p.k x) (s / p.n) (s % p.n))

module _ (p : Setting) (S : Sound p) where
  pub laws : FieldBelow p.q (ops_of p.q)
  laws = laws_of p.q S.good

  abbrev pub positive : 0 < p.q
  positive = below_positive laws

  -- The field of a setting, its α, and their code.
  abbrev pub field_of : Field (Element p.q)
  field_of = field_below p.q (ops_of p.q) laws

  abbrev pub root_of : Element p.q
  root_of = element p.q positive alpha

  pub order_at : HasOrder field_of.ops p.n root_of
  order_at =
      subst (λ (n : ℕ). HasOrder field_of.ops n root_of) (sym S.block)
      (order_below p.q (ops_of p.q) laws (p.q - 1) alpha positive (order_of p.q S.good))

  abbrev pub over_field : Code (Element p.q)
  over_field = code_over field_of root_of p.n p.k p.m

  pub keeps : Homomorphism field_of.ops (ops_of p.q) number
  keeps = number_keeps p.q (ops_of p.q) laws

  pub number_zero : number field_of.ops.zero ≡ 0
  number_zero = keeps.on_zero ∙ laws.zero_is

  pub number_sub : (a b : Element p.q) → number (sub field_of.ops a b) ≡ sub (ops_of p.q) (number a) (number b)
  number_sub a b = keeps.on_add a (field_of.ops.neg b) ∙ ap ((ops_of p.q).add (number a)) (keeps.on_neg b)

  pub root_number : number root_of ≡ alpha
  root_number = number_element p.q positive alpha (order_of p.q S.good).root_below

  pub mapped_code : mapped over_field (ops_of p.q) number ≡ code_of p
  mapped_code = ap (λ (a : ℕ). record { ops = ops_of p.q; α = a; n = p.n; k = p.k; m = p.m }) root_number

  -- Numbers as elements.
  unfoldable pub lifted : (ℕ → ℕ → ℕ) → ℕ → ℕ → Element p.q
  lifted u s r = element p.q positive (u s r)

  pub number_lifted : (u : ℕ → ℕ → ℕ) (s r : ℕ) → u s r < p.q → number (lifted u s r) ≡ u s r
  unfolding lifted
  number_lifted u s r h = number_element p.q positive (u s r) h

  pub lifted_same : (u v : ℕ → ℕ → ℕ) (s r : ℕ) → u s r ≡ v s r → lifted u s r ≡ lifted v s r
  unfolding lifted
  lifted_same u v s r e = ap (element p.q positive) e

  pub sent_number : (u : ℕ → ℕ → ℕ) → ((s r : ℕ) → u s r < p.q) → (s i : ℕ) → number (sent_symbol over_field (lifted u) s i) ≡ sent_symbol (code_of p) u s i
  sent_number u below s i =
      sent_symbol_natural over_field (ops_of p.q) number keeps (lifted u) s i
      ∙ ap₂ (λ (c : Code ℕ) (x : ℕ → ℕ → ℕ). sent_symbol c x s i) mapped_code (fun_ext (λ b. fun_ext (λ r. number_lifted u b r (below b r))))

  pub times_g_number : (x : ℕ → ℕ) → ((r : ℕ) → x r < p.q) → (j i : ℕ)
      → number (times_g over_field (λ r. element p.q positive (x r)) j i) ≡ times_g (code_of p) x j i
  times_g_number x below j i =
      times_g_natural over_field (ops_of p.q) number keeps (λ r. element p.q positive (x r)) j i
      ∙ ap₂ (λ (c : Code ℕ) (y : ℕ → ℕ). times_g c y j i) mapped_code (fun_ext (λ r. number_element p.q positive (x r) (below r)))

  pub combination_number : (u : ℕ → ℕ → ℕ) (l i : ℕ) → ((b r : ℕ) → b ≤ l → r < p.k → u b r < p.q)
      → number (combination over_field l (lifted u) i) ≡ combination (code_of p) l u i
  combination_number u l i below =
      combination_natural over_field (ops_of p.q) number keeps l (lifted u) i
      ∙ ap (λ (c : Code ℕ). combination c l (λ b r. number (lifted u b r)) i) mapped_code
      ∙ combination_ext (code_of p) l (λ b r. number (lifted u b r)) u i (λ b r h s. number_lifted u b r (below b r h s))

  pub ending_number : (v : ℕ → ℕ) → ((e : ℕ) → v e < p.q) → (j : ℕ) → number (ending over_field (λ e. element p.q positive (v e)) j) ≡ ending (code_of p) v j
  ending_number v below j =
      ending_natural over_field (ops_of p.q) number keeps (λ e. element p.q positive (v e)) j
      ∙ ap₂ (λ (c : Code ℕ) (w : ℕ → ℕ). ending c w j) mapped_code (fun_ext (λ e. number_element p.q positive (v e) (below e)))

  -- A block's symbols as elements, and the value of its polynomial at a power of α.
  pub received : List ℕ → ℕ → Element p.q
  received block i = element p.q positive (get_or block i 0)

  module _ (block : List ℕ) (symbols : Symbols p.q block) where
    pub received_number : (i : ℕ) → number (received block i) ≡ get_or block i 0
    unfolding received
    received_number i = number_element p.q positive (get_or block i 0) (symbol_below p.q block symbols positive i)

    pub value_number : length block ≡ p.n → (s : ℕ)
        → number (value_of field_of.ops p.n (received block) (power field_of.ops root_of s)) ≡ value (ops_of p.q) block (power (ops_of p.q) alpha s)
    value_number long s =
        value_of_natural field_of.ops (ops_of p.q) number keeps p.n (received block) (power field_of.ops root_of s)
        ∙ ap (value_of (ops_of p.q) p.n (λ i. number (received block i)))
        (power_natural field_of.ops (ops_of p.q) number keeps root_of s ∙ ap (λ (a : ℕ). power (ops_of p.q) a s) root_number)
        ∙ value_of_ext (ops_of p.q) p.n (λ i. number (received block i)) (λ i. get_or block i (ops_of p.q).zero) (power (ops_of p.q) alpha s)
        (λ i h. received_number i ∙ ap (get_or block i) (sym laws.zero_is))
        ∙ ap (λ (t : ℕ). value_of (ops_of p.q) t (λ i. get_or block i (ops_of p.q).zero) (power (ops_of p.q) alpha s)) (sym long)
        ∙ sym (value_is_value_of (ops_of p.q) block (power (ops_of p.q) alpha s))

  pub row_symbol_number : (j r i : ℕ) → number (row_symbol over_field j r i) ≡ row_symbol (code_of p) j r i
  row_symbol_number j r i = row_symbol_natural over_field (ops_of p.q) number keeps j r i ∙ ap (λ (c : Code ℕ). row_symbol c j r i) mapped_code

  -- The generator's symbols are below q.
  pub row_symbol_below : (j r i : ℕ) → row_symbol (code_of p) j r i < p.q
  row_symbol_below j r i = subst (λ (t : ℕ). t < p.q) (row_symbol_number j r i) (row_symbol over_field j r i).1

  -- Every symbol of a message, and past its end, is below q.
  pub message_below : (T : ℕ) (x : List ℕ) → Message p T x → (s r : ℕ) → view p.k x s r < p.q
  message_below T x M s r = symbol_below p.q x M.symbols positive (s * p.k + r)

  -- A message's number of blocks.
  pub message_blocks : (T : ℕ) (x : List ℕ) → Message p T x → length x / p.k ≡ T
  message_blocks T x M =
      let same : T * p.k + 0 ≡ length x = omega (arith, M.long) in
      let inside : 0 < p.k = omega (arith, S.information) in
      ap (λ (t : ℕ). t / p.k) (sym same) ∙ digits_div T inside

  -- The transmission's symbols.
  pub transmission_view : (T : ℕ) (x : List ℕ) → Message p T x → (s i : ℕ) → s < T + p.m → i < p.n
      → view p.n (transmission p x) s i ≡ sent_symbol (code_of p) (view p.k x) s i
  unfolding transmission
  transmission_view T x M s i l h =
      view_tabulate (length x / p.k + p.m) p.n (sent_symbol (code_of p) (view p.k x)) s i
      (subst (λ (t : ℕ). s < t + p.m) (sym (message_blocks T x M)) l) h

  pub transmission_length : (T : ℕ) (x : List ℕ) → Message p T x → length (transmission p x) ≡ (T + p.m) * p.n
  transmission_length T x M = transmission_long p x ∙ ap (λ (t : ℕ). (t + p.m) * p.n) (message_blocks T x M)

  pub sent_below : (u : ℕ → ℕ → ℕ) → ((s r : ℕ) → u s r < p.q) → (s i : ℕ) → sent_symbol (code_of p) u s i < p.q
  sent_below u below s i = subst (λ (t : ℕ). t < p.q) (sent_number u below s i) (sent_symbol over_field (lifted u) s i).1

  pub transmission_symbols : (T : ℕ) (x : List ℕ) → Message p T x → Symbols p.q (transmission p x)
  unfolding transmission
  transmission_symbols T x M =
      record {
        below = λ i l. subst (λ (t : ℕ). t < p.q)
            (sym (get_d_tabulate ((length x / p.k + p.m) * p.n) _ i 0 (omega (arith, transmission_long p x))))
            (sent_below (view p.k x) (message_below T x M) (i / p.n) (i % p.n));
      }
