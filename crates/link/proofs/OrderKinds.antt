-- What is said of an order that was worked through (specs/Orders), of any kind, follows from a computed test.
-- Holds: `orders_test`, which the checker computes; the lemma of each kind of order, `encoding_order`, `read_order`, `seven_order`; `each_kept`, for a whole
-- list.
use mathlib.Core.Path.{◌≡◌, refl, sym, ap, ap₂, subst, ◌∙◌}
use mathlib.Core.Bool.{Bool, true, false, ◌&&◌}
use mathlib.Core.List.Memᴰ
use mathlib.Core.List.{List, [], ◌∷◌, ◌++◌, Memᴰ}
use mathlib.Core.Logic.{◌⊎◌, inl, inr}
use Prim.Native.Nat.{ℕ, ◌*◌, ◌/◌, ◌≤◌}
use native.Mathlib.Omega.{arith}
use lib.Dec.{T as Passes, eqb, leb, eqb→eq, leb→le, le→leb}
use lib.ListN.{length, drop, replicate, length-replicate}
use borrow.Author.Tests.{eq-eqb}
use Rattle.algebra.specs.Ops.{pick}
use Rattle.algebra.proofs.Tests.{and_left, and_right}
use Rattle.code.specs.parts.Residual.{frame_length}
use Rattle.code.specs.declared.Setting.{Setting}
use Rattle.code.specs.Settings.{setting_of}
use Rattle.code.specs.parts.Sound.{Sound}
use Rattle.code.specs.Windows.{transmission, altered, unknown_in, Fits}
use Rattle.code.proofs.CodeBelow.{transmission_long, transmission_length}
use Rattle.code.proofs.Settings.{sound_of}
use Rattle.code.proofs.Demand3.{at_most_one_fits}
use Rattle.code.proofs.Search.{fits_test, fits_of_test, none_fits_test, no_message_fits}
use Rattle.question.specs.declared.answer.Answer.{Answer}
use Rattle.question.specs.Questions.{answer, counted, first_no, blocks_of, decoding_questions, encoding_questions}
use Rattle.question.proofs.Questions.{all_yes, yes_all, decoding_yes}
use Rattle.link.specs.Encoding.{encoded_area}
use Rattle.link.specs.Orders.{Call, encoding, decoding, Order, Promised, Overwritten, OrderKept}
use Rattle.link.specs.Decoding.{FrameDecoded, found, none_fits, Decoded, refused, well_formed}

-- The tests.
unfoldable pub same_list : List ℕ → List ℕ → Bool
same_list [] [] = true
same_list [] (y ∷ b) = false
same_list (x ∷ a) [] = false
same_list (x ∷ a) (y ∷ b) = eqb x y && same_list a b

same_list_lem : (a b : List ℕ) → Passes (same_list a b) → a ≡ b
unfolding same_list
same_list_lem [] [] t = refl
same_list_lem [] (y ∷ b) t = absurd t
same_list_lem (x ∷ a) [] t = absurd t
same_list_lem (x ∷ a) (y ∷ b) t = ap₂ ◌∷◌ (eqb→eq x y (and_left (eqb x y) (same_list a b) t)) (same_list_lem a b (and_right (eqb x y) (same_list a b) t))

unfoldable pub same_answer : Answer → Answer → Bool
same_answer a b = eqb a.number b.number && (eqb a.altered b.altered && (eqb a.place b.place && eqb a.unknown b.unknown))

same_answer_lem : (a b : Answer) → Passes (same_answer a b) → a ≡ b
unfolding same_answer
same_answer_lem a b t =
    let number = eqb a.number b.number in
    let altered = eqb a.altered b.altered in
    let place = eqb a.place b.place in
    let unknown = eqb a.unknown b.unknown in
    let counts : Passes (altered && (place && unknown)) = and_right number (altered && (place && unknown)) t in
    let last : Passes (place && unknown) = and_right altered (place && unknown) counts in
    λ i. record {
      number = eqb→eq a.number b.number (and_left number (altered && (place && unknown)) t) i;
      altered = eqb→eq a.altered b.altered (and_left altered (place && unknown) counts) i;
      place = eqb→eq a.place b.place (and_left place unknown last) i;
      unknown = eqb→eq a.unknown b.unknown (and_right place unknown last) i;
    }

-- T of a reception.
abbrev pub blocks : Order → ℕ
blocks o = blocks_of (setting_of o.setting) (length o.given)

-- An encoding: with an area just long enough every question gets "yes", and the transmission is the message's.
unfoldable pub encoding_test : Order → Bool
encoding_test o =
    eqb (first_no (encoding_questions o.setting o.given (length o.sent))).number 0
    && (same_answer o.answer (answer 0 0)
    && same_list o.sent (transmission (setting_of o.setting) o.given))

-- A reception that is read: its message fits.
unfoldable pub read_test : Order → Bool
read_test o =
    fits_test (setting_of o.setting) (blocks o) o.given o.message
    && (same_list o.sent (transmission (setting_of o.setting) o.message)
    && same_answer o.answer (counted (altered (setting_of o.setting) (blocks o) o.given o.sent) (unknown_in (setting_of o.setting) (blocks o) o.given)))

-- A reception that gets number 7: the search finds no message.
unfoldable pub seven_test : Order → Bool
seven_test o =
    none_fits_test (setting_of o.setting) (blocks o) o.given
    && (same_list o.message (replicate (blocks o * (setting_of o.setting).k) 0)
    && (same_list o.sent (replicate (frame_length (setting_of o.setting) (blocks o)) 0)
    && same_answer o.answer (answer 7 0)))

-- A reception: with areas just long enough questions 1 to 6 get "yes".
unfoldable pub decoding_test : Order → Bool
decoding_test o =
    eqb (first_no (decoding_questions o.setting o.given (length o.message) (length o.sent))).number 0
    && elim (eqb o.answer.number 0) [ true ↦ read_test o | false ↦ seven_test o ]

abbrev pub test_of : Call → Order → Bool
test_of encoding o = encoding_test o
test_of decoding o = decoding_test o

unfoldable pub orders_test : List Order → Bool
orders_test [] = true
orders_test (o ∷ rest) = test_of o.call o && orders_test rest

-- More room changes no "yes".
room_more : (a room room' : ℕ) → Passes (leb a room) → room ≤ room' → Passes (leb a room')
room_more a room room' t h = le→leb a room' (omega (arith, leb→le a room t))

encoding_room : (number : ℕ) (message : List ℕ) (room room' : ℕ) → (first_no (encoding_questions number message room)).number ≡ 0 → room ≤ room'
    → first_no (encoding_questions number message room') ≡ answer 0 0
encoding_room number message room room' e h =
    let yes_to = all_yes (encoding_questions number message room) tt e in
    let p = setting_of number in
    yes_all (encoding_questions number message room') (
      yes_to.0,
      (
        yes_to.1.0,
        (
          yes_to.1.1.0,
          (
            yes_to.1.1.1.0,
            (room_more (frame_length p (length message / p.k)) room room' yes_to.1.1.1.1.0 h, tt),
          ),
        ),
      ),
    )

decoding_room : (number : ℕ) (reception : List ℕ) (a a' b b' : ℕ) → (first_no (decoding_questions number reception a b)).number ≡ 0 → a ≤ a' → b ≤ b'
    → first_no (decoding_questions number reception a' b') ≡ answer 0 0
decoding_room number reception a a' b b' e ha hb =
    let yes_to = all_yes (decoding_questions number reception a b) tt e in
    let p = setting_of number in
    let T = blocks_of p (length reception) in
    yes_all (decoding_questions number reception a' b') (
      yes_to.0,
      (
        yes_to.1.0,
        (
          yes_to.1.1.0,
          (
            yes_to.1.1.1.0,
            (room_more (T * p.k) a a' yes_to.1.1.1.1.0 ha, (room_more (frame_length p T) b b' yes_to.1.1.1.1.1.0 hb, tt)),
          ),
        ),
      ),
    )

overwritten_by : (front other before after : List ℕ) (a : ℕ) → after ≡ other ++ drop a before → front ≡ other → length front ≡ a
    → Overwritten front before after
overwritten_by front other before after a e same long =
    e ∙ (ap (λ (l : List ℕ). l ++ drop a before) (sym same) ∙ ap (λ (t : ℕ). front ++ drop t before) (sym long))

zeros_long : (n : ℕ) (l : List ℕ) → l ≡ replicate n 0 → length l ≡ n
zeros_long n l e = ap length e ∙ length-replicate n 0

-- The lemma of each kind of order.
encoding_order : (o : Order) → Passes (encoding_test o) → Promised encoding o
unfolding encoding_test
encoding_order o t before after r room E = (
  E.answered ∙ (clear ∙ sym (same_answer_lem o.answer (answer 0 0) (and_left none same later))),
  overwritten_by o.sent (transmission p o.given) before after (frame_length p (length o.given / p.k)) written sent_is
      (ap length sent_is ∙ transmission_long p o.given),
)
  where
    p : Setting
    p = setting_of o.setting

    asked : Bool
    asked = eqb (first_no (encoding_questions o.setting o.given (length o.sent))).number 0

    none : Bool
    none = same_answer o.answer (answer 0 0)

    same : Bool
    same = same_list o.sent (transmission p o.given)

    later : Passes (none && same)
    later = and_right asked (none && same) t

    clear : first_no (encoding_questions o.setting o.given (length before)) ≡ answer 0 0
    clear =
        encoding_room o.setting o.given (length o.sent) (length before)
        (eqb→eq (first_no (encoding_questions o.setting o.given (length o.sent))).number 0 (and_left asked (none && same) t)) room

    sent_is : o.sent ≡ transmission p o.given
    sent_is = same_list_lem o.sent (transmission p o.given) (and_right none same later)

    written : after ≡ encoded_area p o.given before
    written =
        E.area ∙ ap (λ (b : Bool). pick b (encoded_area p o.given before) before)
        (eq-eqb r.number 0 (ap (λ (a : Answer). a.number) (E.answered ∙ clear)))

-- Question 7's answer and parts are the order's.
record Parts (o : Order) (r : Answer) (message sent : List ℕ) : Type 0 where
  answered : r ≡ o.answer
  message_is : o.message ≡ message
  sent_is : o.sent ≡ sent

-- Questions 1 to 6 get "yes" of the order's reception with these areas.
module _ (o : Order) (asked : (first_no (decoding_questions o.setting o.given (length o.message) (length o.sent))).number ≡ 0) where
  abbrev p : Setting
  p = setting_of o.setting

  sound : Sound p
  sound = sound_of o.setting (decoding_yes o.setting o.given (length o.message) (length o.sent) asked).setting

  never_refused : (message sent : List ℕ) → length o.message ≤ length message → length o.sent ≤ length sent
      → ((first_no (decoding_questions o.setting o.given (length message) (length sent))).number ≡ 0 → ⊥) → ⊥
  never_refused message sent hm hs no_to =
      no_to (ap (λ (a : Answer). a.number) (decoding_room o.setting o.given (length o.message) (length message) (length o.sent)
      (length sent) asked hm hs))

  -- Of the whole call it is enough to know question 7's answer and parts.
  whole : (message message' sent sent' : List ℕ) (r : Answer) → length o.message ≤ length message → length o.sent ≤ length sent
      → length o.message ≡ blocks o * p.k → length o.sent ≡ frame_length p (blocks o)
      → ((x y : List ℕ) → FrameDecoded p (blocks o) o.given r x y → Parts o r x y)
      → Decoded o.setting o.given message sent r message' sent'
      → (r ≡ o.answer) × Overwritten o.message message message' × Overwritten o.sent sent sent'
  whole message message' sent sent' r hm hs long sent_long frame (refused h e f g) = absurd (never_refused message sent hm hs h)
  whole message message' sent sent' r hm hs long sent_long frame (well_formed h D) =
      let parts = frame D.message_part D.transmission_part D.decoded in (
        parts.answered,
        overwritten_by o.message D.message_part message message' (blocks o * p.k) D.message_area parts.message_is long,
        overwritten_by o.sent D.transmission_part sent sent' (frame_length p (blocks o)) D.transmission_area parts.sent_is sent_long,
      )

  read_order : Passes (read_test o) → Promised decoding o
  unfolding read_test
  read_order t message message' sent sent' r hm hs D = whole message message' sent sent' r hm hs fits.message_of.long sent_long frame D
    where
      fit : Bool
      fit = fits_test p (blocks o) o.given o.message

      same : Bool
      same = same_list o.sent (transmission p o.message)

      counts : List ℕ → Answer
      counts sent = counted (altered p (blocks o) o.given sent) (unknown_in p (blocks o) o.given)

      count : Bool
      count = same_answer o.answer (counts o.sent)

      fits : Fits p (blocks o) o.given o.message
      fits = fits_of_test p sound (blocks o) o.given o.message (and_left fit (same && count) t)

      sent_is : o.sent ≡ transmission p o.message
      sent_is = same_list_lem o.sent (transmission p o.message) (and_left same count (and_right fit (same && count) t))

      answer_is : o.answer ≡ counts o.sent
      answer_is = same_answer_lem o.answer (counts o.sent) (and_right same count (and_right fit (same && count) t))

      sent_long : length o.sent ≡ frame_length p (blocks o)
      sent_long =
          ap length sent_is ∙ transmission_length p sound (blocks o) o.message fits.message_of

      frame : (x y : List ℕ) → FrameDecoded p (blocks o) o.given r x y → Parts o r x y
      frame x y (none_fits none e f g) = absurd (none o.message fits)
      frame x y (found F e g) =
          let one : o.message ≡ x = at_most_one_fits p sound (blocks o) o.given o.message x fits F in
          let sent_one : o.sent ≡ transmission p x = sent_is ∙ ap (transmission p) one in
          record {
            answered = e ∙ sym (answer_is ∙ ap counts sent_one);
            message_is = one;
            sent_is = sent_one ∙ sym g;
          }

  seven_order : Passes (seven_test o) → Promised decoding o
  unfolding seven_test
  seven_order t message message' sent sent' r hm hs D =
      whole message message' sent sent' r hm hs (zeros_long (blocks o * p.k) o.message message_is)
      (zeros_long (frame_length p (blocks o)) o.sent sent_is) frame D
    where
      none : Bool
      none = none_fits_test p (blocks o) o.given

      no_message : Bool
      no_message = same_list o.message (replicate (blocks o * p.k) 0)

      no_sent : Bool
      no_sent = same_list o.sent (replicate (frame_length p (blocks o)) 0)

      seven : Bool
      seven = same_answer o.answer (answer 7 0)

      later : Passes (no_message && (no_sent && seven))
      later = and_right none (no_message && (no_sent && seven)) t

      message_is : o.message ≡ replicate (blocks o * p.k) 0
      message_is = same_list_lem o.message (replicate (blocks o * p.k) 0) (and_left no_message (no_sent && seven) later)

      sent_is : o.sent ≡ replicate (frame_length p (blocks o)) 0
      sent_is = same_list_lem o.sent (replicate (frame_length p (blocks o)) 0) (and_left no_sent seven (and_right no_message (no_sent && seven) later))

      answer_is : o.answer ≡ answer 7 0
      answer_is = same_answer_lem o.answer (answer 7 0) (and_right no_sent seven (and_right no_message (no_sent && seven) later))

      frame : (x y : List ℕ) → FrameDecoded p (blocks o) o.given r x y → Parts o r x y
      frame x y (found F e g) = absurd (no_message_fits p sound (blocks o) o.given (and_left none (no_message && (no_sent && seven)) t) x F)
      frame x y (none_fits far e f g) =
          record { answered = e ∙ sym answer_is; message_is = message_is ∙ sym f; sent_is = sent_is ∙ sym g }

order_kept : (c : Call) (o : Order) → Passes (test_of c o) → Promised c o
unfolding decoding_test
order_kept encoding o t = encoding_order o t
order_kept decoding o t = at (eqb o.answer.number 0) (and_right asked (kind (eqb o.answer.number 0)) t)
  where
    asked : Bool
    asked = eqb (first_no (decoding_questions o.setting o.given (length o.message) (length o.sent))).number 0

    kind : Bool → Bool
    kind b = elim b [ true ↦ read_test o | false ↦ seven_test o ]

    yes_to : (first_no (decoding_questions o.setting o.given (length o.message) (length o.sent))).number ≡ 0
    yes_to =
        eqb→eq (first_no (decoding_questions o.setting o.given (length o.message) (length o.sent))).number 0
        (and_left asked (kind (eqb o.answer.number 0)) t)

    at : (b : Bool) → Passes (kind b) → Promised decoding o
    at true read = read_order o yes_to read
    at false seven = seven_order o yes_to seven

-- A list that passes is kept.
pub each_kept : (l : List Order) → Passes (orders_test l) → (o : Order) → Memᴰ o l → OrderKept o
unfolding orders_test
each_kept [] t o h = absurd (Memᴰ.not-nil h)
each_kept (x ∷ rest) t o h = at (Memᴰ.cases_cons h) (each_kept rest (and_right (test_of x.call x) (orders_test rest) t) o)
  where
    at : (o ≡ x) ⊎ Memᴰ o rest → (Memᴰ o rest → OrderKept o) → OrderKept o
    at (inl e) more = subst OrderKept (sym e) (order_kept x.call x (and_left (test_of x.call x) (orders_test rest) t))
    at (inr m) more = more m
