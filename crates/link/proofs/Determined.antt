-- Decoding's promise leaves nothing open: it gives one answer and one content of each area (from `at_most_one_fits`).
-- Holds: `frame_determined`, of question 7; `parts_long`, `message_front`, `transmission_front`; `fronts_determined`, in any areas large enough;
-- `Alike`, `decoded_alike`, of two calls whose areas have the same lengths; `decoded_determined`, of two calls on the same setting, reception and areas;
-- `woven_determined`, of two such calls on woven frames.
use mathlib.Core.Path.{◌≡◌, refl, sym, ap, ap₂, ◌∙◌}
use mathlib.Core.List.{List, ◌++◌}
use Prim.Native.Nat.{ℕ, ◌*◌, ◌/◌, ◌<◌}
use native.Mathlib.Omega.{arith}
use native.Mathlib.Decide.{dec_lt}
use lib.ListN.{length, get_or, take, drop, length-replicate}
use lib.Seq.{take_at}
use Rattle.area.specs.Lists.{part_at}
use Rattle.area.proofs.Parts.{in_turn_of_parts}
use Rattle.code.specs.parts.Residual.{frame_length}
use Rattle.code.specs.declared.Setting.{Setting}
use Rattle.code.specs.Settings.{setting_of}
use Rattle.code.specs.parts.Sound.{Sound}
use Rattle.code.specs.Windows.{transmission, altered, unknown_in}
use Rattle.code.proofs.Settings.{sound_of}
use Rattle.code.proofs.CodeBelow.{transmission_length}
use Rattle.code.proofs.Demand3.{at_most_one_fits}
use Rattle.question.specs.declared.answer.Answer.{Answer}
use Rattle.question.specs.Questions.{answer, counted, first_no, blocks_of, decoding_questions}
use Rattle.question.proofs.Questions.{decoding_yes}
use Rattle.link.specs.Decoding.{FrameDecoded, found, none_fits, DecodedIn, Decoded, refused, well_formed, DecodingDetermined}
use Rattle.link.specs.Woven.{refused as woven_refused, well_formed as woven_well_formed, WovenDetermined}

module _ (p : Setting) (S : Sound p) (T : ℕ) (reception : List ℕ) where
  pub frame_determined : {r s : Answer} {message other sent other_sent : List ℕ}
      → FrameDecoded p T reception r message sent → FrameDecoded p T reception s other other_sent
      → (r ≡ s) × (message ≡ other) × (sent ≡ other_sent)
  frame_determined {r} {s} {message} {other} (found F e t) (found G f u) =
      let one : message ≡ other = at_most_one_fits p S T reception message other F G in (
        e ∙ (ap (λ (x : List ℕ). counted (altered p T reception (transmission p x)) (unknown_in p T reception)) one ∙ sym f),
        one,
        t ∙ (ap (transmission p) one ∙ sym u),
      )
  frame_determined {message = message} (found F e t) (none_fits far f m u) = absurd (far message F)
  frame_determined {other = other} (none_fits far e m t) (found G f u) = absurd (far other G)
  frame_determined (none_fits far e m t) (none_fits far' f n u) = (e ∙ sym f, m ∙ sym n, t ∙ sym u)

  -- The parts have the lengths of the places that they go to.
  pub parts_long : {r : Answer} {message sent : List ℕ} → FrameDecoded p T reception r message sent
      → (length message ≡ T * p.k) × (length sent ≡ frame_length p T)
  parts_long {message = message} (found F e t) = (F.message_of.long, ap length t ∙ transmission_length p S T message F.message_of)
  parts_long (none_fits far e m t) = (ap length m ∙ length-replicate (T * p.k) 0, ap length t ∙ length-replicate (frame_length p T) 0)

  -- So the front of each area is its part.
  pub message_front : {message transmitted : List ℕ} {r : Answer} {message' transmitted' : List ℕ}
      (D : DecodedIn p T reception message transmitted r message' transmitted')
      → take (T * p.k) message' ≡ D.message_part
  message_front {message} D =
      ap (take (T * p.k)) D.message_area ∙ take_at D.message_part (drop (T * p.k) message) (T * p.k) (parts_long D.decoded).0

  pub transmission_front : {message transmitted : List ℕ} {r : Answer} {message' transmitted' : List ℕ}
      (D : DecodedIn p T reception message transmitted r message' transmitted') → take (frame_length p T) transmitted' ≡ D.transmission_part
  transmission_front {transmitted = transmitted} D =
      ap (take (frame_length p T)) D.transmission_area
      ∙ take_at D.transmission_part (drop (frame_length p T) transmitted) (frame_length p T) (parts_long D.decoded).1

  -- Whatever areas were lent, if they are large enough: the first T × k and (T+m) × n bytes.
  pub fronts_determined : {message transmitted other other_sent : List ℕ} {r s : Answer} {message' transmitted' other' other_sent' : List ℕ}
      → DecodedIn p T reception message transmitted r message' transmitted' → DecodedIn p T reception other other_sent s other' other_sent'
      → (r ≡ s) × (take (T * p.k) message' ≡ take (T * p.k) other') × (take (frame_length p T) transmitted' ≡ take (frame_length p T) other_sent')
  fronts_determined D E =
      let one = frame_determined D.decoded E.decoded in (
        one.0,
        message_front D ∙ (one.1 ∙ sym (message_front E)),
        transmission_front D ∙ (one.2 ∙ sym (transmission_front E)),
      )

-- What two calls have in common: the answer and, where questions 1 to 6 got "yes", the first T × k and (T+m) × n bytes.
pub record Alike (number : ℕ) (reception message transmitted : List ℕ) (r s : Answer) (message' other' transmitted' other_sent' : List ℕ) : Type 0 where
  pub answers : r ≡ s
  pub fronts : (first_no (decoding_questions number reception (length message) (length transmitted))).number ≡ 0
      → (take (blocks_of (setting_of number) (length reception) * (setting_of number).k) message'
      ≡ take (blocks_of (setting_of number) (length reception) * (setting_of number).k) other')
      × (take (frame_length (setting_of number) (blocks_of (setting_of number) (length reception))) transmitted'
      ≡ take (frame_length (setting_of number) (blocks_of (setting_of number) (length reception))) other_sent')

-- A setting that decoding admits.
sound : (number : ℕ) (reception : List ℕ) (a b : ℕ) → (first_no (decoding_questions number reception a b)).number ≡ 0 → Sound (setting_of number)
sound number reception a b asked = sound_of number (decoding_yes number reception a b asked).setting

module _ (number : ℕ) (reception : List ℕ) where
  -- Whatever areas of the same lengths were lent.
  pub decoded_alike : (message transmitted other other_sent : List ℕ) {r s : Answer} {message' transmitted' other' other_sent' : List ℕ}
      → length message ≡ length other → length transmitted ≡ length other_sent
      → Decoded number reception message transmitted r message' transmitted' → Decoded number reception other other_sent s other' other_sent'
      → Alike number reception message transmitted r s message' other' transmitted' other_sent'
  decoded_alike message transmitted other other_sent {r} {s} {message'} {transmitted'} {other'} {other_sent'} a b D E = at D E
    where
      same : first_no (decoding_questions number reception (length message) (length transmitted)) ≡ first_no
          (decoding_questions number reception (length other) (length other_sent))
      same = ap₂ (λ (x y : ℕ). first_no (decoding_questions number reception x y)) a b

      number_same : (first_no (decoding_questions number reception (length message) (length transmitted))).number
          ≡ (first_no (decoding_questions number reception (length other) (length other_sent))).number
      number_same = ap (λ (x : Answer). x.number) same

      at : Decoded number reception message transmitted r message' transmitted' → Decoded number reception other other_sent s other' other_sent'
          → Alike number reception message transmitted r s message' other' transmitted' other_sent'
      at (refused h e m t) (refused k f n u) = record { answers = e ∙ (same ∙ sym f); fronts = λ z. absurd (h z) }
      at (refused h e m t) (well_formed k F) = absurd (h (number_same ∙ k))
      at (well_formed h F) (refused k f n u) = absurd (k (sym number_same ∙ h))
      at (well_formed h F) (well_formed k G) =
          let one = fronts_determined (setting_of number) (sound number reception (length message) (length transmitted) h)
          (blocks_of (setting_of number) (length reception)) reception F G in
          record { answers = one.0; fronts = λ z. (one.1, one.2) }

-- The same areas: one answer, one message area, one transmission area.
pub decoded_determined : DecodingDetermined
decoded_determined number reception message transmitted r s message' transmitted' other other_sent (refused h e m t) (refused k f n u) =
    (e ∙ sym f, m ∙ sym n, t ∙ sym u)
decoded_determined number reception message transmitted r s message' transmitted' other other_sent (refused h e m t) (well_formed k F) = absurd (h k)
decoded_determined number reception message transmitted r s message' transmitted' other other_sent (well_formed h F) (refused k f n u) = absurd (k h)
decoded_determined number reception message transmitted r s message' transmitted' other other_sent (well_formed h F) (well_formed k G) =
    let p = setting_of number in
    let T = blocks_of p (length reception) in
    let one = frame_determined p (sound number reception (length message) (length transmitted) h) T reception F.decoded G.decoded in (
      one.0,
      F.message_area ∙ (ap (λ (x : List ℕ). x ++ drop (T * p.k) message) one.1 ∙ sym G.message_area),
      F.transmission_area ∙ (ap (λ (x : List ℕ). x ++ drop (frame_length p T) transmitted) one.2 ∙ sym G.transmission_area),
    )

-- Two areas with the same parts that hold the same past them.
same_parts : (size D : ℕ) (area other : List ℕ) → ((f : ℕ) → f < D → part_at size f area ≡ part_at size f other)
    → drop (D * size) area ≡ drop (D * size) other → area ≡ other
same_parts size D area other parts past =
    in_turn_of_parts size D (λ f. part_at size f other) area other parts past
    ∙ sym (in_turn_of_parts size D (λ f. part_at size f other) other other (λ f below. refl) refl)

-- Each of the D frames by itself, with its part of each area.
pub woven_determined : WovenDetermined
woven_determined number D reception message transmitted r s message' transmitted' other other_sent (woven_refused h e none m t) (woven_refused k f zeros n u) =
    (e ∙ sym f, λ g. none g ∙ sym (zeros g), m ∙ sym n, t ∙ sym u)
woven_determined number D reception message transmitted r s message' transmitted' other other_sent (woven_refused h e none m t) (woven_well_formed k f G) =
    absurd (h k)
woven_determined number D reception message transmitted r s message' transmitted' other other_sent (woven_well_formed h e F) (woven_refused k f zeros n u) =
    absurd (k h)
woven_determined number D reception message transmitted r s message' transmitted' other other_sent (woven_well_formed h e F) (woven_well_formed k f G) =
    (e ∙ sym f, λ g. at g (dec_lt g D), messages, transmissions)
  where
    p : Setting
    p = setting_of number

    T : ℕ
    T = blocks_of p (length reception / D)

    one : (g : ℕ) → g < D → (get_or r.frame g (answer 0 0) ≡ get_or s.frame g (answer 0 0))
        × (part_at (T * p.k) g message' ≡ part_at (T * p.k) g other) × (part_at (frame_length p T) g transmitted' ≡ part_at (frame_length p T) g other_sent)
    one g below = decoded_determined number _ _ _ _ _ _ _ _ _ (F.frame g below) (G.frame g below)

    at : (g : ℕ) → Dec (g < D) → get_or r.frame g (answer 0 0) ≡ get_or s.frame g (answer 0 0)
    at g (yes below) = (one g below).0
    at g (no past) = F.no_frame g (omega arith) ∙ sym (G.no_frame g (omega arith))

    messages : message' ≡ other
    messages = same_parts (T * p.k) D message' other (λ g below. (one g below).1) (F.message_past ∙ sym G.message_past)

    transmissions : transmitted' ≡ other_sent
    transmissions =
        same_parts (frame_length p T) D transmitted' other_sent (λ g below. (one g below).2) (F.transmission_past ∙ sym G.transmission_past)
