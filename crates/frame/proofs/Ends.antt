-- The residual once all windows were read: the last comparison decides, and gives the transmission and the altered count.
-- Holds: `end_test`, `end_back`, `end_known`, `end_altered`; `frame_fits`, `frame_none`, `frame_compared`.
use mathlib.Core.Path.{◌≡◌, sym, subst, ◌∙◌}
use mathlib.Core.Bool.{Bool, true, not, ◌&&◌}
use mathlib.Core.List.{List}
use Prim.Native.Nat.{ℕ, ◌+◌, ◌*◌, ◌/◌, ◌%◌, ◌≤◌, ◌<◌}
use native.Mathlib.Omega.{arith}
use lib.Dec.{eqb}
use lib.ListN.{length, get_or, take, drop}
use lib.Seq.{ext_get_or}
use Rattle.algebra.specs.Ops.{sub}
use Rattle.algebra.proofs.Weights.{count_of_ext}
use Rattle.area.specs.Lists.{view}
use Rattle.area.proofs.Lists.{place_in_blocks}
use Rattle.field.specs.Fields.{ops_of}
use Rattle.field.specs.Symbols.{Symbols, is_unknown}
use Rattle.field.proofs.Symbols.{symbol_below}
use Rattle.code.specs.declared.Setting.{Setting}
use Rattle.code.specs.Code.{distances_to}
use Rattle.code.specs.parts.Sound.{Sound}
use Rattle.code.specs.Transmission.{sent_symbol}
use Rattle.code.specs.Settings.{code_of}
use Rattle.code.specs.Windows.{transmission, window_length, known_distance, altered, Message}
use Rattle.code.specs.parts.Cost.{zero_cost, message_cost, NearWindow}
use Rattle.code.specs.parts.Residual.{IsResidual}
use Rattle.code.proofs.Settings.{block_positive}
use Rattle.code.proofs.CodeBelow.{positive, transmission_view}
use Rattle.code.proofs.Cost.{fits_cost, fits_near}
use Rattle.code.proofs.Residuals.{residual_zero}
use Rattle.code.proofs.ResidualSteps.{residual_below, residual_back, residual_test}
use Rattle.frame.specs.parts.Frame.{Settled, NoneFits, FrameRead, fits, none, Compared, all_near, one_far}

module _ (p : Setting) (S : Sound p) (T : ℕ) (reception message residual : List ℕ) (M : Message p T message)
    (is_residual : IsResidual p T reception message residual) where
  found : (i : ℕ) → get_or message i 0 < p.q
  found = symbol_below p.q message M.symbols (positive p S)

  -- What is said of each symbol of a frame, by block and place, holds at each place.
  at_place : (Holds : ℕ → ℕ → Type 0) → ((s i : ℕ) → s < T + p.m → i < p.n → Holds (s * p.n + i) (sent_symbol (code_of p) (view p.k message) s i))
      → (a : ℕ) → a < (T + p.m) * p.n → Holds a (get_or (transmission p message) a 0)
  at_place Holds each a l =
      let at = place_in_blocks (T + p.m) a p.n (block_positive p S) l in
      subst (λ (t : ℕ). Holds t (get_or (transmission p message) t 0)) at.2
      (subst (Holds (a / p.n * p.n + a % p.n)) (sym (transmission_view p S T message M (a / p.n) (a % p.n) at.0 at.1)) (each (a / p.n) (a % p.n) at.0 at.1))

  -- At each place a known symbol was altered just where the residual is known and not zero..
  pub end_test : (a : ℕ) → a < (T + p.m) * p.n
      → (not (is_unknown p.q (get_or reception a 0)) && not (eqb (get_or reception a 0) (get_or (transmission p message) a 0)))
      ≡ (not (is_unknown p.q (get_or residual a 0)) && not (eqb (get_or residual a 0) 0))
  end_test =
      at_place (λ (a sent : ℕ). (not (is_unknown p.q (get_or reception a 0)) && not (eqb (get_or reception a 0) sent))
      ≡ (not (is_unknown p.q (get_or residual a 0)) && not (eqb (get_or residual a 0) 0)))
      (residual_test p S T reception message residual found is_residual)

  -- .. and the reception less the residual is the transmission, where it is known.
  pub end_back : (a : ℕ) → a < (T + p.m) * p.n → get_or reception a 0 < p.q
      → sub (ops_of p.q) (get_or reception a 0) (get_or residual a 0) ≡ get_or (transmission p message) a 0
  end_back =
      at_place (λ (a sent : ℕ). get_or reception a 0 < p.q → sub (ops_of p.q) (get_or reception a 0) (get_or residual a 0) ≡ sent)
      (residual_back p S T reception message residual found is_residual)

  -- A residual's symbols are known where the reception's are.
  pub end_known : Symbols p.q reception → length residual ≡ (T + p.m) * p.n → Symbols p.q residual
  end_known R long =
      record {
        below = λ a l. at_place (λ (a sent : ℕ). get_or residual a 0 < p.q)
            (λ s i u v. residual_below p S T reception message residual found is_residual s i u v (symbol_below p.q reception R (positive p S) (s * p.n + i)))
            a (omega (arith, long));
      }

  -- Its known symbols before the closing blocks that are not zero are the altered ones that count.
  pub end_altered : altered p T reception (transmission p message) ≡ known_distance p.q (T * p.n) (λ i. get_or residual i 0) (λ i. 0)
  end_altered = count_of_ext (T * p.n) _ _ (λ i h. end_test i (omega arith))

module _ {p : Setting} (S : Sound p) {T unknown : ℕ} {reception message residual : List ℕ} (long : length reception ≡ (T + p.m) * p.n) (blocks : 1 ≤ T)
    (P : Settled p T unknown reception T message residual) where
  whole : Message p T message
  whole = record { blocks = blocks; long = P.areas.message_long; symbols = P.areas.message_symbols }

  -- What a window of the residual costs against zeros is what the window costs where this message was sent.
  window_of_residual : (j : ℕ) → j < T → zero_cost p.q (take (window_length p) (drop (j * p.n) residual)) ≡ message_cost p reception message j
  window_of_residual =
      residual_zero p S T reception message residual
      (symbol_below p.q message P.areas.message_symbols (positive p S)) P.is_residual whole P.areas.residual_long

  -- Near in every window: the message fits.
  pub frame_fits : ((j : ℕ) → j < T → zero_cost p.q (take (window_length p) (drop (j * p.n) residual)) < distances_to p.n p.k p.m)
      → FrameRead p T reception message residual true
  frame_fits near =
      fits
      (record { message_of = whole; long = long; near = λ j l. (fits_cost p S T reception message whole j l).1 (rw (window_of_residual j l) at (near j l)) })
      (P.areas.residual_long ∙ sym long) P.is_residual

  -- Far in one window: no message fits, since it could only be this one.
  pub frame_none : (j : ℕ) → j < T → distances_to p.n p.k p.m ≤ zero_cost p.q (take (window_length p) (drop (j * p.n) residual))
      → NoneFits p T reception
  frame_none j l far x F =
      let same : x ≡ message =
      ext_get_or 0 x message (F.message_of.long ∙ sym P.areas.message_long) (λ i u. P.begins x F i (omega (arith, F.message_of.long))) in
      let near : NearWindow p reception message j = subst (λ (t : List ℕ). NearWindow p reception t j) same (fits_near p S T reception x F j l) in
      omega (arith, window_of_residual j l)

  -- The last comparison decides.
  pub frame_compared : {r : Bool} → Compared p T residual r → FrameRead p T reception message residual r
  frame_compared (all_near near) = frame_fits near
  frame_compared (one_far j l far) = none (frame_none j l far)
