-- Two messages of one setting and length against what was received, on lists of bytes.
-- Holds: `messages_agree` (near windows determine blocks), `block_determined` (one near window determines its first block), `alike_window`.
use mathlib.Core.Path.{◌≡◌, sym, ap, subst, ◌∙◌}
use mathlib.Core.List.{List}
use Prim.Native.Nat.{ℕ, suc, ◌+◌, ◌*◌, ◌/◌, ◌%◌, ◌≤◌, ◌<◌}
use native.Mathlib.Omega.{arith}
use lib.Arith.{digits_lt}
use lib.ListN.{get_or, take}
use Rattle.algebra.proofs.Below.{number}
use Rattle.algebra.proofs.Weights.{total_ext}
use Rattle.area.specs.Lists.{view}
use Rattle.area.proofs.Lists.{equal_part, place_in_blocks}
use Rattle.code.specs.declared.Setting.{Setting}
use Rattle.code.specs.Code.{distances_to}
use Rattle.code.specs.Transmission.{sent_symbol}
use Rattle.code.specs.parts.Cost.{symbol_cost, cost_to, message_cost, NearWindow}
use Rattle.code.specs.Windows.{Message}
use Rattle.code.specs.Settings.{code_of}
use Rattle.code.specs.parts.Sound.{Sound}
use Rattle.code.proofs.Certainty.{block_certain, agree_through}
use Rattle.code.proofs.CodeBelow.{field_of, root_of, order_at, over_field, lifted, lifted_same, number_lifted, message_below}
use Rattle.code.proofs.Cost.{byte_cost, bytes_apart, message_cost_lem}

module _ (p : Setting) (S : Sound p) (T : ℕ) (x y : List ℕ) (X : Message p T x) (Y : Message p T y) where
  same_number : (s r : ℕ) → lifted p S (view p.k x) s r ≡ lifted p S (view p.k y) s r → view p.k x s r ≡ view p.k y s r
  same_number s r e =
      sym (number_lifted p S (view p.k x) s r (message_below p S T x X s r))
      ∙ (ap number e ∙ number_lifted p S (view p.k y) s r (message_below p S T y Y s r))

  both_near : (w : List ℕ) (j : ℕ) → NearWindow p w x j → NearWindow p w y j
      → cost_to p.n (byte_cost p.q) (view p.n w) (sent_symbol (over_field p S) (lifted p S (view p.k x))) j p.m
      + cost_to p.n (byte_cost p.q) (view p.n w) (sent_symbol (over_field p S) (lifted p S (view p.k y))) j p.m
      < 2 * distances_to p.n p.k p.m
  both_near w j near_x near_y = omega (arith, message_cost_lem p S T w x X j, message_cost_lem p S T w y Y j)

  -- Window j near both, and blocks before j equal: block j is equal.
  pub block_determined : (w : List ℕ) (j : ℕ) → ((i : ℕ) → i < j * p.k → get_or x i 0 ≡ get_or y i 0)
      → NearWindow p w x j → NearWindow p w y j → (r : ℕ) → r < p.k → view p.k x j r ≡ view p.k y j r
  block_determined w j agree near_x near_y r h =
      let m_le : p.m ≤ p.m = omega arith in
      same_number j r
      (block_certain (field_of p S) (root_of p S) p.n p.k p.m (order_at p S) S.room (byte_cost p.q) (bytes_apart p.q)
      (lifted p S (view p.k x)) (lifted p S (view p.k y)) (view p.n w) j p.m m_le
      (λ s t u v. lifted_same p S (view p.k x) (view p.k y) s t (agree (s * p.k + t) (digits_lt u v)))
      (both_near w j near_x near_y) r h)

  -- Windows before j near both: the blocks before j are equal.
  pub messages_agree : (w : List ℕ) (j : ℕ) → ((i : ℕ) → i < j → NearWindow p w x i) → ((i : ℕ) → i < j → NearWindow p w y i)
      → (i : ℕ) → i < j * p.k → get_or x i 0 ≡ get_or y i 0
  messages_agree w j near_x near_y i h =
      let at = place_in_blocks j i p.k S.information h in
      subst (λ (t : ℕ). get_or x t 0 ≡ get_or y t 0) at.2
      (same_number (i / p.k) (i % p.k)
      (agree_through (field_of p S) (root_of p S) p.n p.k p.m (order_at p S) S.room (byte_cost p.q) (bytes_apart p.q)
      (lifted p S (view p.k x)) (lifted p S (view p.k y)) (view p.n w) j
      (λ b u. both_near w b (near_x b u) (near_y b u)) (i / p.k) (i % p.k) at.0 at.1))

-- Receptions alike through the end of window j: the windows up to j cost the same, whatever was sent.
pub alike_window : (p : Setting) (v w x : List ℕ) (j i : ℕ) → take ((j + p.m + 1) * p.n) v ≡ take ((j + p.m + 1) * p.n) w → i ≤ j
    → message_cost p v x i ≡ message_cost p w x i
unfolding cost_to
alike_window p v w x j i alike l =
    total_ext (suc p.m) _ _ (λ s h. total_ext p.n _ _ (λ a u.
    let block : i + s < j + p.m + 1 = omega arith in
    ap (λ (t : ℕ). symbol_cost p.q t (sent_symbol (code_of p) (view p.k x) (i + s) a))
    (equal_part v w ((j + p.m + 1) * p.n) alike ((i + s) * p.n + a) (digits_lt block u))))
