-- Sending a message symbol by symbol: the area holds the message's transmission less that of the rest, which is in the end zero.
-- Holds: `sent_none`, `sent_more`, `sent_all`; `encoded_whole` (encoding in an area of just the right size).
use mathlib.Core.Path.{◌≡◌, refl, sym, ap, subst, ◌∙◌}
use mathlib.Core.Bool.{Bool}
use mathlib.Core.List.{List}
use Prim.Native.Nat.{ℕ, ◌+◌, ◌-◌, ◌*◌, ◌/◌, ◌%◌, ◌≤◌, ◌<◌}
use native.Mathlib.Omega.{arith}
use native.Mathlib.Decide.{dec_lt, ℕ_discrete}
use lib.ListN.{length, get_or, take, drop, set, replicate, length-replicate, get_or-eq_default}
use borrow.Author.Tests.{eq-eqb}
use lib.Seq.{ext_get_or, get_or-set_same, get_or-set_other}
use borrow.Rule.Slice.PartMut.{put_mid}
use Rattle.algebra.specs.Ops.{pick}
use Rattle.area.specs.Lists.{view}
use Rattle.area.proofs.Lists.{get_d_zeros, place_in_blocks}
use Rattle.field.specs.Fields.{ops_of}
use Rattle.field.specs.Symbols.{Symbols}
use Rattle.field.proofs.Symbols.{symbols_zeros}
use Rattle.code.specs.parts.Residual.{less, frame_length}
use Rattle.code.specs.declared.Setting.{Setting}
use Rattle.code.specs.declared.SettingNumber.{SettingNumber}
use Rattle.code.specs.parts.SettingNumbers.{number_of, parameters_of}
use Rattle.code.specs.Transmission.{sent_symbol}
use Rattle.code.specs.Settings.{code_of}
use Rattle.code.specs.parts.Sound.{Sound}
use Rattle.code.specs.Windows.{transmission, window_length, Message}
use Rattle.code.proofs.CodeBelow.{laws, positive, message_below, message_blocks, transmission_view, transmission_length, sent_below}
use Rattle.code.proofs.Cost.{less_known}
use Rattle.code.proofs.Settings.{sound_of, number_known, block_positive}
use Rattle.question.specs.declared.answer.Answer.{Answer}
use Rattle.question.specs.Questions.{most_blocks}
use Rattle.question.proofs.Questions.{encoding_all_yes}
use Rattle.code.proofs.ResidualSteps.{residual_start}
use Rattle.tables.specs.parts.RowsAdded.{RowsAdded}
use Rattle.frame.specs.parts.Frame.{Adjusted}
use Rattle.frame.proofs.Guesses.{symbol_room, adjusted}
use Rattle.link.specs.parts.Sending.{SentTo}
use Rattle.link.specs.Encoding.{encoded_area, Encoded}
use Rattle.link.proofs.Decoding.{whole_part}

module _ (p : Setting) (S : Sound p) (T : ℕ) (message : List ℕ) (M : Message p T message) where
  -- Nothing was sent: the whole message is the rest, and the area is zero.
  pub sent_none : (area : List ℕ) → area ≡ replicate (frame_length p T) 0 → SentTo p T message 0 area
  sent_none area e =
      record {
        rest = message;
        areas = record {
          message_long = M.long;
          message_symbols = M.symbols;
          residual_long = ap length e ∙ length-replicate (frame_length p T) 0;
          residual_symbols = λ known. subst (Symbols p.q) (sym e) (symbols_zeros p.q (frame_length p T) (positive p S));
        };
        sent = λ i l. absurd (omega arith);
        unsent = λ i l. refl;
        is_residual = record {
          symbol = λ s i l u.
              zeros (s * p.n + i)
              ∙ sym (ap (λ (t : ℕ). less p.q t (sent_symbol (code_of p) (view p.k message) s i)) (transmission_view p S T message M s i l u)
              ∙ less_known p.q _ _ (sent_below p S (view p.k message) (message_below p S T message M) s i)
              ∙ (laws p S).plus_neg (sent_symbol (code_of p) (view p.k message) s i)
              (sent_below p S (view p.k message) (message_below p S T message M) s i));
        };
      }
    where
      zeros : (i : ℕ) → get_or area i 0 ≡ 0
      zeros i = ap (λ (l : List ℕ). get_or l i 0) e ∙ get_d_zeros (frame_length p T) i

  -- Symbol r of block i is sent: its multiples of rows come into the area, and the rest has 0 in its place.
  pub sent_more : (i r v : ℕ) (area window' : List ℕ) → i < T → r < p.k → v ≡ get_or message (i * p.k + r) 0 → SentTo p T message (i * p.k + r) area
      → RowsAdded p r v (take (i * p.n + window_length p - i * p.n) (drop (i * p.n) area)) window'
      → SentTo p T message (i * p.k + (r + 1)) (put_mid (i * p.n) (i * p.n + window_length p - i * p.n) area window')
  sent_more i r v area window' li lr e sending L =
      record {
        rest = set rest place 0;
        areas = step.revised.areas;
        sent = λ a l. at_sent a (ℕ_discrete a place) l;
        unsent = λ a l. get_or-set_other rest place a 0 0 (omega arith) ∙ sending.unsent a (omega arith);
        is_residual = step.revised.is_residual (transmission p message) sending.is_residual;
      }
    where
      rest : List ℕ
      rest = sending.rest

      place : ℕ
      place = i * p.k + r

      below : v < p.q
      below = subst (λ (t : ℕ). t < p.q) (sym e) (message_below p S T message M i r)

      minus : ℕ
      minus = (ops_of p.q).neg v

      taken : 0 ≡ (ops_of p.q).add (get_or rest place 0) minus
      taken =
          sym (ap (λ (t : ℕ). (ops_of p.q).add t minus) (sending.unsent place (omega arith) ∙ sym e) ∙ (laws p S).plus_neg v below)

      step : Adjusted p T 0 i r minus rest area (set rest place 0) (put_mid (i * p.n) (i * p.n + window_length p - i * p.n) area window')
      step =
          adjusted p S T 0 i r minus rest area sending.areas li lr ((laws p S).neg_below v below) 0 taken v below
          ((laws p S).plus_comm minus v ((laws p S).neg_below v below) below ∙ (laws p S).plus_neg v below) (window_length p) refl window' L

      at_sent : (a : ℕ) → Dec (a ≡ place) → a < i * p.k + (r + 1) → get_or (set rest place 0) a 0 ≡ 0
      at_sent a (yes s) l =
          ap (λ (t : ℕ). get_or (set rest place 0) t 0) s ∙ get_or-set_same rest place 0 0 (symbol_room p T 0 i r rest area sending.areas li lr)
      at_sent a (no d) l = get_or-set_other rest place a 0 0 d ∙ sending.sent a (omega arith)

  -- All was sent: the rest is zero, and so is its transmission.
  pub sent_all : (area : List ℕ) → SentTo p T message (T * p.k) area → area ≡ transmission p message
  sent_all area sending =
      ext_get_or 0 area (transmission p message) (sending.areas.residual_long ∙ sym (transmission_length p S T message M))
      (λ a l. at a (omega (arith, sending.areas.residual_long)))
    where
      zeros : (a : ℕ) → get_or sending.rest a 0 ≡ 0
      zeros a = past a (dec_lt a (T * p.k))
        where
          past : (a : ℕ) → Dec (a < T * p.k) → get_or sending.rest a 0 ≡ 0
          past a (yes l) = sending.sent a l
          past a (no d) = get_or-eq_default sending.rest 0 (omega (arith, sending.areas.message_long))

      at : (a : ℕ) → a < frame_length p T → get_or area a 0 ≡ get_or (transmission p message) a 0
      at a l =
          let place = place_in_blocks (T + p.m) a p.n (block_positive p S) l in
          let whole = residual_start p S T (transmission p message) sending.rest zeros in
          subst (λ (t : ℕ). get_or area t 0 ≡ get_or (transmission p message) t 0) place.2
          (sending.is_residual.symbol (a / p.n) (a % p.n) place.0 place.1 ∙ sym (whole.symbol (a / p.n) (a % p.n) place.0 place.1))

-- In an area of just its size encoding leaves the transmission of a message, and nothing else.
pub encoded_whole : (s : SettingNumber) (T : ℕ) (message before : List ℕ) {number : ℕ} {r : Answer} {after : List ℕ} → number ≡ number_of s → T ≤ most_blocks
    → Message (parameters_of s) T message → length before ≡ frame_length (parameters_of s) T → Encoded number message before r after
    → after ≡ transmission (parameters_of s) message
encoded_whole s T message before {r = r} {after} e few M long E =
    let p = parameters_of s in
    let done = rw e at E in
    let zero : r.number ≡ 0 =
    ap (λ (a : Answer). a.number) done.answered ∙ encoding_all_yes (number_of s) T message (length before) (number_known s) few M (omega (arith, long)) in
    let size : length before ≡ (length message / p.k + p.m) * p.n =
    long ∙ ap (λ (t : ℕ). frame_length p t) (sym (message_blocks p (sound_of (number_of s) (number_known s)) T message M)) in
    done.area ∙ ap (λ (t : Bool). pick t (encoded_area p message before) before) (eq-eqb r.number 0 zero)
    ∙ sym (whole_part (transmission p message) before ((length message / p.k + p.m) * p.n) size)
