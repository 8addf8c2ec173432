-- What the first "no" of a list of questions says, and what a call knows when every answer was "yes".
-- Holds: of one question `first_yes`, `first_no_lem`; of a list before others `append_yes`; `numbered`, `AllYes`, `all_yes`, `yes_all` (number 0
-- says that every answer was "yes"), `true_of`, `number_of`; what is asked of woven frames after the questions that need no setting, `weaving_later`,
-- `woven_decoding_later`; of a share of the room `share`, `shares`; of bytes before one that is not admitted `passing_whole`,
-- `whole_passing`, `position_found`; of question 4 `largest_symbols`, `four_yes`, `four_asked`, `four_refused`, `symbols_admitted`, `admitted_symbols`,
-- `symbols_received`, `unknown_is_mark`, `unknown_are_marks`; what a call knows, `FrameShape`, `DecodingYes`, `EncodingYes`, `WovenYes`, `WovenDecodingYes`,
-- `decoding_yes`, `encoding_yes`, `weaving_yes`, `woven_decoding_yes`; from that the answer "yes", `decoding_all_yes`, `encoding_all_yes`, `weaving_again`; the
-- areas' sizes, `message_most`, `transmission_most`.
use mathlib.Core.Path.{◌≡◌, refl, sym, ap, subst, ◌∙◌}
use mathlib.Core.Bool.{Bool, true, false, cond, not, ◌&&◌, ◌||◌}
use mathlib.Core.List.{List, [], ◌∷◌, ◌++◌}
use Prim.Native.Nat.{ℕ, zero, suc, max, ◌+◌, ◌-◌, ◌*◌, ◌/◌, ◌%◌, ◌≤◌, ◌<◌}
use native.Mathlib.Nat.{not-suc-le-zero, le_of_suc-le-suc, div-add-mod, div-add-mod', le-div_iff_mul-le, le_trans, mul_comm, mul-le-mul_right, mul-mod_left}
use native.Mathlib.Omega.{arith}
use lib.Dec.{T as Passes, eqb, leb, ltb, leb→le, le→leb, eqb→eq}
use Rattle.std.specs.List.{fold, position, position_or_len, prefix_len, AllPass}
use Rattle.std.specs.Prelude.{Option, Some, None}
use Rattle.std.specs.Option.{MatchOption}
use Rattle.std.proofs.lemmas.List.Elements.{All-from_get_or, All-weaker}
use Rattle.std.proofs.lemmas.List.Recursion.{is_position_or_len}
use Rattle.std.proofs.lemmas.List.Sums.{prefix_len_is, prefix_len_passes}
use lib.ListN.{length, get_or}
use borrow.Author.Tests.{eq-eqb, ne_eqb, lt-ltb, lt-leb, le-leb, leb-true, ltb-true, ltb-false}
use Rattle.algebra.specs.Ops.{pick}
use Rattle.algebra.proofs.Tests.{and_left, and_right}
use Rattle.field.specs.Symbols.{Symbols, unknown_mark, is_unknown}
use Rattle.algebra.proofs.Weights.{count_of_ext}
use Rattle.code.specs.parts.Residual.{frame_length}
use Rattle.code.specs.declared.Setting.{Setting}
use Rattle.code.specs.Settings.{is_setting, setting_of}
use Rattle.code.specs.Windows.{window_length, Message}
use Rattle.code.proofs.CodeBelow.{message_blocks}
use Rattle.code.proofs.Settings.{largest_of, Sizes, sizes_of, sound_of}
use Rattle.question.specs.declared.answer.Answer.{Answer}
use Rattle.question.specs.Questions.{Question, ask, answer, symbol_question, transmission_question, first_no, most_blocks, most_frames}
use Rattle.question.specs.Questions.{most_symbols, most_information, blocks_of, passing_to, is_symbol, is_received, UnknownIsMark, UnknownAreMarks, area_questions}
use Rattle.question.specs.Questions.{decoding_questions, encoding_questions, woven_questions, weaving_questions, woven_decoding_questions}

pub true_of : (t : Bool) → Passes t → t ≡ true
true_of true h = refl
true_of false h = elim h [ ]

-- One question: "yes" asks the rest, "no" is the answer.
pub first_yes : (x : Question) (rest : List Question) → x.holds ≡ true → first_no (x ∷ rest) ≡ first_no rest
first_yes x rest e = ap (λ (t : Bool). pick t (first_no rest) (answer x.number x.place)) e

pub first_no_lem : (x : Question) (rest : List Question) → x.holds ≡ false → first_no (x ∷ rest) ≡ answer x.number x.place
first_no_lem x rest e = ap (λ (t : Bool). pick t (first_no rest) (answer x.number x.place)) e

-- No question has the number 0.
abbrev pub numbered : List Question → Bool
numbered [] = true
numbered (x ∷ rest) = not (eqb x.number 0) && numbered rest

-- Every answer is "yes".
abbrev pub AllYes : List Question → Type 0
AllYes [] = Unit
AllYes (x ∷ rest) = Passes x.holds × AllYes rest

-- The number 0 says that every answer was "yes".
pub all_yes : (l : List Question) → Passes (numbered l) → (first_no l).number ≡ 0 → AllYes l
all_yes [] n e = tt
all_yes (x ∷ rest) n e = at (all_yes rest (and_right (not (eqb x.number 0)) (numbered rest) n)) x.holds e
  where
    at : ((first_no rest).number ≡ 0 → AllYes rest) → (t : Bool) → (pick t (first_no rest) (answer x.number x.place)).number ≡ 0 → Passes t × AllYes rest
    at more true e = (tt, more e)
    at more false e = absurd (subst (λ (t : Bool). Passes (not t)) (eq-eqb x.number 0 e) (and_left (not (eqb x.number 0)) (numbered rest) n))

-- The other way round; place and count are 0 too.
pub yes_all : (l : List Question) → AllYes l → first_no l ≡ answer 0 0
yes_all [] t = refl
yes_all (x ∷ rest) t = at x.holds t.0 (yes_all rest t.1)
  where
    at : (b : Bool) → Passes b → first_no rest ≡ answer 0 0 → pick b (first_no rest) (answer x.number x.place) ≡ answer 0 0
    at true t e = e
    at false t e = absurd t

-- A call's answer r is the answer s of its questions: their number is 0 with its.
pub number_of : {r s : Answer} → r ≡ s → r.number ≡ 0 → s.number ≡ 0
number_of asked e = ap (λ (t : Answer). t.number) (sym asked) ∙ e

-- A list of questions before others: if it has no "no", the others are asked.
pub append_yes : (a b : List Question) → Passes (numbered a) → (first_no a).number ≡ 0 → first_no (a ++ b) ≡ first_no b
append_yes [] b n e = refl
append_yes (x ∷ a) b n e = at (append_yes a b (and_right (not (eqb x.number 0)) (numbered a) n)) x.holds e
  where
    at : ((first_no a).number ≡ 0 → first_no (a ++ b) ≡ first_no b) → (t : Bool)
        → (pick t (first_no a) (answer x.number x.place)).number ≡ 0
        → pick t (first_no (a ++ b)) (answer x.number x.place) ≡ first_no b
    at more true e = more e
    at more false e = absurd (subst (λ (t : Bool). Passes (not t)) (eq-eqb x.number 0 e) (and_left (not (eqb x.number 0)) (numbered a) n))

-- What is asked of woven frames after the questions that need no setting, of a setting p.
abbrev pub weaving_later : List ℕ → ℕ → Setting → List Question
weaving_later incoming room p = symbol_question (is_received p.q) incoming ∷ ask 6 (leb (length incoming) room) ∷ []

abbrev pub woven_decoding_later : ℕ → List ℕ → ℕ → ℕ → Setting → List Question
woven_decoding_later D reception message_room transmission_room p =
    symbol_question (is_received p.q) reception
    ∷ ask 5 (leb (D * (blocks_of p (length reception / D) * p.k)) message_room)
    ∷ ask 6 (leb (D * frame_length p (blocks_of p (length reception / D))) transmission_room)
    ∷ []

-- A share of the room: D frames have room where each has it in its share.
tests_agree : (s t : Bool) → (s ≡ true → t ≡ true) → (t ≡ true → s ≡ true) → s ≡ t
tests_agree true t up down = sym (up refl)
tests_agree false true up down = down refl
tests_agree false false up down = refl

pub share : (D x room : ℕ) → 1 ≤ D → leb x (room / D) ≡ leb (D * x) room
share D x room h =
    tests_agree (leb x (room / D)) (leb (D * x) room)
    (λ e. le-leb (D * x) room (subst (λ (t : ℕ). t ≤ room) (mul_comm x D) ((le-div_iff_mul-le h).0 (leb-true x (room / D) e))))
    (λ e. le-leb x (room / D) ((le-div_iff_mul-le h).1 (subst (λ (t : ℕ). t ≤ room) (mul_comm D x) (leb-true (D * x) room e))))

pub shares : (D : ℕ) (reception : List ℕ) (message_room transmission_room : ℕ) (p : Setting) → 1 ≤ D
    → first_no (area_questions p (blocks_of p (length reception / D)) reception (message_room / D) (transmission_room / D))
    ≡ first_no (woven_decoding_later D reception message_room transmission_room p)
shares D reception message_room transmission_room p h =
    let T = blocks_of p (length reception / D) in
    let four = symbol_question (is_received p.q) reception in
    ap (λ (t : Bool). first_no (four ∷ ask 5 t ∷ transmission_question p T (transmission_room / D) ∷ [])) (share D (T * p.k) message_room h)
    ∙ ap (λ (t : Bool). first_no (four ∷ ask 5 (leb (D * (T * p.k)) message_room) ∷ ask 6 t ∷ [])) (share D (frame_length p T) transmission_room h)

-- No byte exceeds the largest.
at_most_largest : (l : List ℕ) (most : ℕ) → (most ≤ fold max most l) × ((i : ℕ) → i < length l → get_or l i 0 ≤ fold max most l)
at_most_largest [] most = (omega arith, λ i h. absurd (not-suc-le-zero h))
at_most_largest (x ∷ l) most = at (at_most_largest l (max most x))
  where
    at : (max most x ≤ fold max most (x ∷ l)) × ((i : ℕ) → i < length l → get_or l i 0 ≤ fold max most (x ∷ l))
        → (most ≤ fold max most (x ∷ l)) × ((i : ℕ) → i < length (x ∷ l) → get_or (x ∷ l) i 0 ≤ fold max most (x ∷ l))
    at rest = (omega (arith, rest.0), each)
      where
        each : (i : ℕ) → i < length (x ∷ l) → get_or (x ∷ l) i 0 ≤ fold max most (x ∷ l)
        each zero h = omega (arith, rest.0)
        each (suc i) h = rest.1 i (le_of_suc-le-suc h)

pub largest_symbols : (l : List ℕ) {most : ℕ} → most ≡ fold max 0 l → Symbols (most + 1) l
largest_symbols l {most} e = record { below = λ i h. omega (arith, (at_most_largest l 0).1 i h) }

-- Bytes of which a test says whether they are admitted: all of them are, or the first that is not stands in this place.
module _ (admits : ℕ → Bool) (bytes : List ℕ) where
  pub passing_whole : AllPass admits bytes → passing_to admits bytes ≡ length bytes
  unfolding passing_to
  passing_whole all = prefix_len_is admits bytes (length bytes) 0 (omega arith) (λ k h. all k 0 h) (λ h. absurd (omega arith))

  pub whole_passing : passing_to admits bytes ≡ length bytes → AllPass admits bytes
  unfolding passing_to
  whole_passing e k d h = prefix_len_passes admits bytes k d (omega arith)

  pub position_found : {found : Option ℕ} → found ≡ position (λ b. not (admits b)) bytes
      → MatchOption found (AllPass admits bytes) (λ place. (place ≡ passing_to admits bytes) × (place < length bytes))
  unfolding passing_to
  position_found {found} e =
      subst Found (sym e) (subst (λ (t : ℕ). Found (cond (ltb t (length bytes)) (Some t) None)) place (at (ltb (prefix_len admits bytes) (length bytes)) refl))
    where
      Found : Option ℕ → Type 0
      Found t = MatchOption t (AllPass admits bytes) (λ place. (place ≡ prefix_len admits bytes) × (place < length bytes))

      turned : (t : Bool) (n : ℕ) → cond t n 0 ≡ cond (not t) 0 n
      turned true n = refl
      turned false n = refl

      place : prefix_len admits bytes ≡ position_or_len (λ b. not (admits b)) bytes
      place = is_position_or_len (prefix_len admits) (λ b. not (admits b)) refl (λ b rest. turned (admits b) (1 + prefix_len admits rest)) bytes

      at : (t : Bool) → ltb (prefix_len admits bytes) (length bytes) ≡ t → Found (cond t (Some (prefix_len admits bytes)) None)
      at true e = (refl, ltb-true _ _ e)
      at false e = let h = ltb-false _ _ e in λ k d l. prefix_len_passes admits bytes k d (omega arith)

  -- Question 4 of them.
  pub four_yes : AllPass admits bytes → (symbol_question admits bytes).holds ≡ true
  four_yes all = eq-eqb (passing_to admits bytes) (length bytes) (passing_whole all)

  pub four_asked : AllPass admits bytes → answer 0 0 ≡ first_no (symbol_question admits bytes ∷ [])
  four_asked all = sym (first_yes (symbol_question admits bytes) [] (four_yes all))

  pub four_refused : {place : ℕ} → place ≡ passing_to admits bytes → place < length bytes → answer 4 place ≡ first_no (symbol_question admits bytes ∷ [])
  four_refused {place} e h = ap (answer 4) e ∙ sym (first_no_lem (symbol_question admits bytes) [] (ne_eqb _ _ (λ whole. omega arith)))

-- Symbols are admitted in a message, and what is admitted there are symbols; in a reception they are admitted too.
pub symbols_admitted : {q : ℕ} {l : List ℕ} → Symbols q l → AllPass (is_symbol q) l
symbols_admitted {q} {l} S = All-from_get_or (λ x. is_symbol q x ≡ true) l 0 (λ i h. lt-ltb _ q (S.below i h))

pub admitted_symbols : {q : ℕ} {l : List ℕ} → AllPass (is_symbol q) l → Symbols q l
admitted_symbols {q} {l} all = record { below = λ i h. ltb-true _ q (all i 0 h) }

pub symbols_received : {q : ℕ} {l : List ℕ} → Symbols q l → AllPass (is_received q) l
symbols_received {q} {l} S =
    All-weaker (λ x. is_symbol q x ≡ true) (λ x. is_received q x ≡ true) (λ x e. simp e) l (symbols_admitted S)

pub unknown_is_mark : UnknownIsMark
unknown_is_mark q v few e = at (ltb v q) refl e
  where
    at : (t : Bool) → ltb v q ≡ t → (t || eqb v unknown_mark) ≡ true → is_unknown q v ≡ eqb v unknown_mark
    at true s e = let h = ltb-true v q s in simp (lt-leb q v h, ne_eqb v unknown_mark (λ z. omega arith))
    at false s e = let h = ltb-false v q s in simp (le-leb q v h, e)

pub unknown_are_marks : UnknownAreMarks
unknown_are_marks q n v few received = count_of_ext n _ _ (λ i l. unknown_is_mark q (v i) few (received i l))

-- What questions 1 to 3 say of a frame of this length, over its setting.
pub record FrameShape (p : Setting) (long : ℕ) : Type 0 where
  pub sizes : Sizes p
  pub blocks : 1 ≤ blocks_of p long
  pub most : blocks_of p long ≤ most_blocks
  pub long_is : long ≡ frame_length p (blocks_of p long)

blocks_of_length : (n m long : ℕ) → 0 < n → long % n ≡ 0 → (m + 1) * n ≤ long → (1 ≤ long / n - m) × (long ≡ (long / n - m + m) * n)
blocks_of_length n m long positive whole room =
    let enough : m + 1 ≤ long / n = (le-div_iff_mul-le positive).1 room in
    let back : long / n - m + m ≡ long / n = omega arith in
    let all : long / n * n ≡ long = omega (arith, div-add-mod' long n) in
    (omega arith, sym (ap (λ (t : ℕ). t * n) back ∙ all))

frame_of : (p : Setting) (long : ℕ) → Sizes p → Passes (eqb (long % p.n) 0 && leb (window_length p) long) → Passes (leb (blocks_of p long) most_blocks)
    → FrameShape p long
frame_of p long sizes shape few =
    let whole : long % p.n ≡ 0 = eqb→eq (long % p.n) 0 (and_left (eqb (long % p.n) 0) (leb (window_length p) long) shape) in
    let room : window_length p ≤ long = leb→le (window_length p) long (and_right (eqb (long % p.n) 0) (leb (window_length p) long) shape) in
    let found = blocks_of_length p.n p.m long sizes.symbols whole room in
    record { sizes = sizes; blocks = found.0; most = leb→le (blocks_of p long) most_blocks few; long_is = found.1 }

-- The areas that a frame of any setting needs.
pub message_most : (number blocks : ℕ) → Passes (is_setting number) → blocks ≤ most_blocks → blocks * (setting_of number).k ≤ most_information
message_most number blocks known h = le_trans (mul-le-mul_right (setting_of number).k h) (largest_of (λ p. most_blocks * p.k) number known)

pub transmission_most : (number blocks : ℕ) → Passes (is_setting number) → blocks ≤ most_blocks → frame_length (setting_of number) blocks ≤ most_symbols
transmission_most number blocks known h =
    let top : blocks + (setting_of number).m ≤ most_blocks + (setting_of number).m = omega arith in
    le_trans (mul-le-mul_right (setting_of number).n top) (largest_of (λ p. frame_length p most_blocks) number known)

-- What decoding knows when questions 1 to 6 got "yes".
pub record DecodingYes (number : ℕ) (reception : List ℕ) (message_room transmission_room : ℕ) : Type 0 where
  pub setting : Passes (is_setting number)
  pub blocks : 1 ≤ blocks_of (setting_of number) (length reception)
  pub most : blocks_of (setting_of number) (length reception) ≤ most_blocks
  pub long : length reception ≡ frame_length (setting_of number) (blocks_of (setting_of number) (length reception))
  pub has_message_room : blocks_of (setting_of number) (length reception) * (setting_of number).k ≤ message_room
  pub has_transmission_room : frame_length (setting_of number) (blocks_of (setting_of number) (length reception)) ≤ transmission_room

pub decoding_yes : (number : ℕ) (reception : List ℕ) (message_room transmission_room : ℕ)
    → (first_no (decoding_questions number reception message_room transmission_room)).number ≡ 0 → DecodingYes number reception message_room transmission_room
decoding_yes number reception message_room transmission_room e =
    let all = all_yes (decoding_questions number reception message_room transmission_room) tt e in
    let p = setting_of number in
    let frame = frame_of p (length reception) (sizes_of number all.0) all.1.0 all.1.1.0 in
    record {
      setting = all.0;
      blocks = frame.blocks;
      most = frame.most;
      long = frame.long_is;
      has_message_room = leb→le (blocks_of p (length reception) * p.k) message_room all.1.1.1.1.0;
      has_transmission_room = leb→le (frame_length p (blocks_of p (length reception))) transmission_room all.1.1.1.1.1.0;
    }

-- The other way round: what decoding knows is all that it asks.
length_test : {p : Setting} {long : ℕ} → FrameShape p long → Passes (eqb (long % p.n) 0 && leb (window_length p) long)
length_test {p} {long} frame =
    let T = blocks_of p long in
    let whole : long % p.n ≡ 0 = ap (λ (t : ℕ). t % p.n) frame.long_is ∙ mul-mod_left (T + p.m) p.n in
    let least : p.m + 1 ≤ T + p.m = omega (arith, frame.blocks) in
    let room : window_length p ≤ long = subst (λ (t : ℕ). window_length p ≤ t) (sym frame.long_is) (mul-le-mul_right p.n least) in
    let yes : (eqb (long % p.n) 0 && leb (window_length p) long) ≡ true = simp (eq-eqb _ _ whole, le-leb _ _ room) in
    subst Passes (sym yes) tt

pub decoding_all_yes : (number : ℕ) (reception : List ℕ) (message_room transmission_room : ℕ) → Passes (is_setting number)
    → FrameShape (setting_of number) (length reception) → AllPass (is_received (setting_of number).q) reception
    → blocks_of (setting_of number) (length reception) * (setting_of number).k ≤ message_room
    → frame_length (setting_of number) (blocks_of (setting_of number) (length reception)) ≤ transmission_room
    → (first_no (decoding_questions number reception message_room transmission_room)).number ≡ 0
decoding_all_yes number reception message_room transmission_room known frame received messages transmissions =
    let p = setting_of number in
    let T = blocks_of p (length reception) in
    let four = subst Passes (sym (four_yes (is_received p.q) reception received)) tt in
    let five = le→leb (T * p.k) message_room messages in
    let six = le→leb (frame_length p T) transmission_room transmissions in
    ap (λ (t : Answer). t.number)
    (yes_all (decoding_questions number reception message_room transmission_room)
    (known, (length_test frame, (le→leb T most_blocks frame.most, (four, (five, (six, tt)))))))

-- What encoding knows when its questions got "yes", T being the length divided by k.
pub record EncodingYes (number : ℕ) (message : List ℕ) (transmission_room : ℕ) : Type 0 where
  pub setting : Passes (is_setting number)
  pub most : length message / (setting_of number).k ≤ most_blocks
  pub message_of : Message (setting_of number) (length message / (setting_of number).k) message
  pub room : frame_length (setting_of number) (length message / (setting_of number).k) ≤ transmission_room

pub encoding_yes : (number : ℕ) (message : List ℕ) (transmission_room : ℕ)
    → (first_no (encoding_questions number message transmission_room)).number ≡ 0 → EncodingYes number message transmission_room
encoding_yes number message transmission_room e =
    let all = all_yes (encoding_questions number message transmission_room) tt e in
    let p = setting_of number in
    let T = length message / p.k in
    let whole : length message % p.k ≡ 0 =
    eqb→eq (length message % p.k) 0 (and_left (eqb (length message % p.k) 0) (leb p.k (length message)) all.1.0) in
    let least : p.k ≤ length message = leb→le p.k (length message) (and_right (eqb (length message % p.k) 0) (leb p.k (length message)) all.1.0) in
    let once : 1 * p.k ≤ length message = omega arith in
    record {
      setting = all.0;
      most = leb→le T most_blocks all.1.1.0;
      message_of =
          record {
            blocks = (le-div_iff_mul-le (sizes_of number all.0).information).1 once;
            long = omega (arith, div-add-mod' (length message) p.k);
            symbols = admitted_symbols (whole_passing (is_symbol p.q) message (eqb→eq (passing_to (is_symbol p.q) message) (length message) all.1.1.1.0));
          };
      room = leb→le (frame_length p T) transmission_room all.1.1.1.1.0;
    }

-- A message of T blocks, with room for its transmission, gets "yes".
pub encoding_all_yes : (number T : ℕ) (message : List ℕ) (transmission_room : ℕ) → Passes (is_setting number) → T ≤ most_blocks
    → Message (setting_of number) T message → frame_length (setting_of number) T ≤ transmission_room
    → (first_no (encoding_questions number message transmission_room)).number ≡ 0
encoding_all_yes number T message transmission_room known few M room =
    let p = setting_of number in
    let count : length message / p.k ≡ T = message_blocks p (sound_of number known) T message M in
    let whole : length message % p.k ≡ 0 = ap (λ (t : ℕ). t % p.k) M.long ∙ mul-mod_left T p.k in
    let one : 1 * p.k ≤ T * p.k = mul-le-mul_right p.k M.blocks in
    let least : p.k ≤ length message = omega (arith, one, M.long) in
    let eight : (eqb (length message % p.k) 0 && leb p.k (length message)) ≡ true = simp (eq-eqb _ _ whole, le-leb _ _ least) in
    let four = subst Passes (sym (four_yes (is_symbol p.q) message (symbols_admitted M.symbols))) tt in
    ap (λ (t : Answer). t.number)
    (yes_all (encoding_questions number message transmission_room) (
      known,
      (
        subst Passes (sym eight) tt,
        (
          le→leb _ most_blocks (subst (λ (t : ℕ). t ≤ most_blocks) (sym count) few),
          (four, (le→leb _ transmission_room (subst (λ (t : ℕ). frame_length p t ≤ transmission_room) (sym count) room), tt)),
        ),
      ),
    ))

-- What is known of D woven frames of together this length, when 1, 14, 15, 2 and 3 got "yes".
pub record WovenYes (number D long : ℕ) : Type 0 where
  pub setting : Passes (is_setting number)
  pub least : 2 ≤ D
  pub most : D ≤ most_frames
  pub whole : long ≡ D * (long / D)
  pub frame : FrameShape (setting_of number) (long / D)

woven_of : (number D long : ℕ) → AllYes (woven_questions number D long) → WovenYes number D long
woven_of number D long all = record {
  setting = all.0;
  least = leb→le 2 D (and_left (leb 2 D) (leb D most_frames) all.1.0);
  most = leb→le D most_frames (and_right (leb 2 D) (leb D most_frames) all.1.0);
  whole = omega (arith, div-add-mod long D, eqb→eq (long % D) 0 all.1.1.0);
  frame = frame_of (setting_of number) (long / D) (sizes_of number all.0) all.1.1.1.0 all.1.1.1.1.0;
}

-- Before other questions.
all_of_first : (a b : List Question) → AllYes (a ++ b) → AllYes a × AllYes b
all_of_first [] b all = (tt, all)
all_of_first (x ∷ a) b all = let rest = all_of_first a b all.1 in ((all.0, rest.0), rest.1)

-- What weaving and unweaving know when their questions got "yes".
pub weaving_yes : (number D : ℕ) (incoming : List ℕ) (room : ℕ) → (first_no (weaving_questions number D incoming room)).number ≡ 0
    → WovenYes number D (length incoming) × (AllPass (is_received (setting_of number).q) incoming × (length incoming ≤ room))
weaving_yes number D incoming room e =
    let p = setting_of number in
    let yes_to = all_yes (weaving_questions number D incoming room) tt e in
    let all = all_of_first (woven_questions number D (length incoming)) (weaving_later incoming room p) yes_to in (
      woven_of number D (length incoming) all.0,
      (
        whole_passing (is_received p.q) incoming (eqb→eq (passing_to (is_received p.q) incoming) (length incoming) all.1.0),
        leb→le (length incoming) room all.1.1.0,
      ),
    )

-- Weaving asks the same of other bytes in the same number, which are admitted and have the room.
pub weaving_again : (number D : ℕ) (incoming other : List ℕ) (room room' : ℕ) → (first_no (weaving_questions number D incoming room)).number ≡ 0
    → length other ≡ length incoming → AllPass (is_received (setting_of number).q) other → length other ≤ room'
    → first_no (weaving_questions number D other room') ≡ answer 0 0
weaving_again number D incoming other room room' e same received enough =
    let p = setting_of number in
    let yes_to = all_yes (weaving_questions number D incoming room) tt e in
    let first = (all_of_first (woven_questions number D (length incoming)) (weaving_later incoming room p) yes_to).0 in
    let woven = subst (λ (t : ℕ). AllYes (woven_questions number D t)) (sym same) first in
    let four = subst Passes (sym (four_yes (is_received p.q) other received)) tt in
    let six = le→leb (length other) room' enough in
    yes_all (weaving_questions number D other room')
    (woven.0, (woven.1.0, (woven.1.1.0, (woven.1.1.1.0, (woven.1.1.1.1.0, (four, (six, tt)))))))

-- What decoding of D woven frames knows when its questions got "yes".
pub record WovenDecodingYes (number D : ℕ) (reception : List ℕ) (message_room transmission_room : ℕ) : Type 0 where
  pub woven : WovenYes number D (length reception)
  pub received : AllPass (is_received (setting_of number).q) reception
  pub has_message_room : D * (blocks_of (setting_of number) (length reception / D) * (setting_of number).k) ≤ message_room
  pub has_transmission_room : D * frame_length (setting_of number) (blocks_of (setting_of number) (length reception / D)) ≤ transmission_room

pub woven_decoding_yes : (number D : ℕ) (reception : List ℕ) (message_room transmission_room : ℕ)
    → (first_no (woven_decoding_questions number D reception message_room transmission_room)).number ≡ 0
    → WovenDecodingYes number D reception message_room transmission_room
woven_decoding_yes number D reception message_room transmission_room e =
    let p = setting_of number in
    let T = blocks_of p (length reception / D) in
    let yes_to = all_yes (woven_decoding_questions number D reception message_room transmission_room) tt e in
    let all = all_of_first (woven_questions number D (length reception)) (woven_decoding_later D reception message_room transmission_room p) yes_to in
    record {
      woven = woven_of number D (length reception) all.0;
      received = whole_passing (is_received p.q) reception (eqb→eq (passing_to (is_received p.q) reception) (length reception) all.1.0);
      has_message_room = leb→le (D * (T * p.k)) message_room all.1.1.0;
      has_transmission_room = leb→le (D * frame_length p T) transmission_room all.1.1.1.0;
    }
