-- The lines of a text, read in parts; what is kept of a line that is begun; the answers behind one another.
-- Holds: `lines_append`, `rest_append` (a text in two parts); `put_behind`; `output_append`; `kept_more`, `line_answered`; `last_answered`; `Reached`,
-- `reached_none`, `reached_ended`, `reached_all` (up to the next newline, and to the end of a text).
use mathlib.Core.Path.{◌≡◌, refl, sym, ap, ap₂, subst, ◌∙◌}
use mathlib.Core.Bool.{Bool, true, false, cond, not}
use mathlib.Core.List.{List, [], ◌∷◌, ◌++◌, append-nil, append_assoc}
use Prim.Native.Nat.{ℕ, zero, suc, ◌+◌, ◌-◌, ◌≤◌, ◌<◌, min}
use native.Mathlib.Numerals.{add-one}
use native.Mathlib.Omega.{arith}
use native.Mathlib.Decide.{dec_le}
use lib.Dec.{eqb, leb}
use lib.ListN.{length, take, drop, length-append, length-take, length-drop}
use lib.Seq.{length-take-le, take_all, take-nil, take-append-le, take-append-add, take_at}
use borrow.Author.Tests.{ltb-true, ltb-false, le-leb}
use borrow.Rule.Slice.PartMut.{put_mid}
use Rattle.std.specs.Prelude.{Option, Some, None, nat_lt}
use Rattle.std.specs.List.{position_or_len, position}
use Rattle.std.proofs.lemmas.List.{take_rest, take_min}
use Rattle.std.proofs.lemmas.List.Sums.{prefix_len-le-length}
use Rattle.std.proofs.lemmas.Slice.{take-put_mid}
use Rattle.algebra.specs.Ops.{pick}
use Rattle.line.specs.Questions.{most_characters}
use Rattle.line.specs.Answering.{Answers, AnswerShown}
use Rattle.line.proofs.Frames.{answers_room, answers_kept}
use Rattle.desk.specs.Texts.{newline, is_newline, lines_of, rest_of, last_of, Output, none, next}
use Rattle.desk.specs.Turns.{KeptLine, kept_line, Kept, output_room, TextAnswered, Turned, came}
use Rattle.desk.specs.parts.Lines.{Behind}

-- A text in two parts.
pub lines_append : (b s t : List ℕ) → lines_of b (s ++ t) ≡ lines_of b s ++ lines_of (rest_of b s) t
unfolding lines_of rest_of
lines_append b [] t = refl
lines_append b (c ∷ s) t = at (eqb c newline) (lines_append [] s t) (lines_append (b ++ c ∷ []) s t)
  where
    at : (e : Bool) → lines_of [] (s ++ t) ≡ lines_of [] s ++ lines_of (rest_of [] s) t
        → lines_of (b ++ c ∷ []) (s ++ t) ≡ lines_of (b ++ c ∷ []) s ++ lines_of (rest_of (b ++ c ∷ []) s) t
        → pick e (b ∷ lines_of [] (s ++ t)) (lines_of (b ++ c ∷ []) (s ++ t))
        ≡ pick e (b ∷ lines_of [] s) (lines_of (b ++ c ∷ []) s) ++ lines_of (pick e (rest_of [] s) (rest_of (b ++ c ∷ []) s)) t
    at true ended on = ap (λ (l : List (List ℕ)). b ∷ l) ended
    at false ended on = on

pub rest_append : (b s t : List ℕ) → rest_of b (s ++ t) ≡ rest_of (rest_of b s) t
unfolding rest_of
rest_append b [] t = refl
rest_append b (c ∷ s) t = at (eqb c newline) (rest_append [] s t) (rest_append (b ++ c ∷ []) s t)
  where
    at : (e : Bool) → rest_of [] (s ++ t) ≡ rest_of (rest_of [] s) t → rest_of (b ++ c ∷ []) (s ++ t) ≡ rest_of (rest_of (b ++ c ∷ []) s) t
        → pick e (rest_of [] (s ++ t)) (rest_of (b ++ c ∷ []) (s ++ t)) ≡ rest_of (pick e (rest_of [] s) (rest_of (b ++ c ∷ []) s)) t
    at true ended on = ended
    at false ended on = on

-- Up to the first newline a text is of the line that is begun, and ends it there ..
lines_ended : (begun l : List ℕ) (end : ℕ) → position_or_len is_newline l ≡ end → end < length l
    → lines_of begun l ≡ (begun ++ take end l) ∷ lines_of [] (drop (suc end) l)
unfolding lines_of
lines_ended begun [] end e h = absurd (omega arith)
lines_ended begun (c ∷ l) end e h = at (eqb c newline) e (lines_ended (begun ++ c ∷ []) l (position_or_len is_newline l) refl)
  where
    at : (b : Bool) → cond (not b) (1 + position_or_len is_newline l) 0 ≡ end
        → (position_or_len is_newline l < length l → lines_of (begun ++ c ∷ []) l
        ≡ ((begun ++ c ∷ []) ++ take (position_or_len is_newline l) l) ∷ lines_of [] (drop (suc (position_or_len is_newline l)) l))
        → pick b (begun ∷ lines_of [] l) (lines_of (begun ++ c ∷ []) l) ≡ (begun ++ take end (c ∷ l)) ∷ lines_of [] (drop (suc end) (c ∷ l))
    at true here on =
        subst (λ (i : ℕ). begun ∷ lines_of [] l ≡ (begun ++ take i (c ∷ l)) ∷ lines_of [] (drop (suc i) (c ∷ l))) here
        (ap (λ (b : List ℕ). b ∷ lines_of [] l) (sym (append-nil begun)))
    at false there on =
        let one : suc (position_or_len is_newline l) ≡ end = omega (arith, there) in
        subst (λ (i : ℕ). lines_of (begun ++ c ∷ []) l ≡ (begun ++ take i (c ∷ l)) ∷ lines_of [] (drop (suc i) (c ∷ l))) one
        (on (omega arith) ∙ ap (λ (b : List ℕ). b ∷ lines_of [] (drop (suc (position_or_len is_newline l)) l))
        (append_assoc begun (c ∷ []) (take (position_or_len is_newline l) l)))

rest_ended : (begun l : List ℕ) (end : ℕ) → position_or_len is_newline l ≡ end → end < length l → rest_of begun l ≡ rest_of [] (drop (suc end) l)
unfolding rest_of
rest_ended begun [] end e h = absurd (omega arith)
rest_ended begun (c ∷ l) end e h = at (eqb c newline) e (rest_ended (begun ++ c ∷ []) l (position_or_len is_newline l) refl)
  where
    at : (b : Bool) → cond (not b) (1 + position_or_len is_newline l) 0 ≡ end
        → (position_or_len is_newline l < length l → rest_of (begun ++ c ∷ []) l ≡ rest_of [] (drop (suc (position_or_len is_newline l)) l))
        → pick b (rest_of [] l) (rest_of (begun ++ c ∷ []) l) ≡ rest_of [] (drop (suc end) (c ∷ l))
    at true here on = subst (λ (i : ℕ). rest_of [] l ≡ rest_of [] (drop (suc i) (c ∷ l))) here refl
    at false there on =
        let one : suc (position_or_len is_newline l) ≡ end = omega (arith, there) in
        subst (λ (i : ℕ). rest_of (begun ++ c ∷ []) l ≡ rest_of [] (drop (suc i) (c ∷ l))) one (on (omega arith))

-- .. and without one all of it is of that line.
lines_unended : (begun l : List ℕ) → position_or_len is_newline l ≡ length l → lines_of begun l ≡ []
unfolding lines_of
lines_unended begun [] e = refl
lines_unended begun (c ∷ l) e = at (eqb c newline) e (lines_unended (begun ++ c ∷ []) l)
  where
    at : (b : Bool) → cond (not b) (1 + position_or_len is_newline l) 0 ≡ suc (length l)
        → (position_or_len is_newline l ≡ length l → lines_of (begun ++ c ∷ []) l ≡ [])
        → pick b (begun ∷ lines_of [] l) (lines_of (begun ++ c ∷ []) l) ≡ []
    at true here on = absurd (omega arith)
    at false there on = on (omega arith)

rest_unended : (begun l : List ℕ) → position_or_len is_newline l ≡ length l → rest_of begun l ≡ begun ++ l
unfolding rest_of
rest_unended begun [] e = sym (append-nil begun)
rest_unended begun (c ∷ l) e = at (eqb c newline) e (rest_unended (begun ++ c ∷ []) l)
  where
    at : (b : Bool) → cond (not b) (1 + position_or_len is_newline l) 0 ≡ suc (length l)
        → (position_or_len is_newline l ≡ length l → rest_of (begun ++ c ∷ []) l ≡ (begun ++ c ∷ []) ++ l)
        → pick b (rest_of [] l) (rest_of (begun ++ c ∷ []) l) ≡ begun ++ c ∷ l
    at true here on = absurd (omega arith)
    at false there on = on (omega arith) ∙ append_assoc begun (c ∷ []) l

take_append : (n : ℕ) (xs ys : List ℕ) → take n (xs ++ ys) ≡ take n xs ++ take (n - length xs) ys
take_append n xs ys = at (dec_le n (length xs))
  where
    at : Dec (n ≤ length xs) → take n (xs ++ ys) ≡ take n xs ++ take (n - length xs) ys
    at (yes l) =
        let nothing : 0 ≡ n - length xs = omega arith in
        take-append-le n xs ys l ∙ (sym (append-nil (take n xs)) ∙ ap (λ (k : ℕ). take n xs ++ take k ys) nothing)
    at (no d) =
        let whole : length xs + (n - length xs) ≡ n = omega arith in
        ap (λ (k : ℕ). take k (xs ++ ys)) (sym whole)
        ∙ (take-append-add xs ys (n - length xs) ∙ ap (λ (l : List ℕ). l ++ take (n - length xs) ys) (sym (take_all n xs (omega arith))))

-- A list and another behind it, of which there is room for so much ..
pub kept_more : (room : ℕ) (l part : List ℕ) → take room (take room l ++ part) ≡ take room (l ++ part)
kept_more room l part =
    take_append room (take room l) part
    ∙ (ap₂ (λ (xs : List ℕ) (k : ℕ). xs ++ take k part) (take_all room (take room l) (omega (arith, length-take room l))) (omega (arith, length-take room l))
    ∙ sym (take_append room l part))

-- What `Text::append` leaves.
pub appended : (bytes part source : List ℕ) (filled from room k : ℕ) → length bytes ≡ room → filled ≤ room → from ≡ filled
    → source ≡ take k part → k ≡ min (room - from) (length part)
    → take (from + k) (put_mid from (from + k - from) bytes source) ≡ take room (take filled bytes ++ part)
appended bytes part source filled from room k long inside behind e n =
    take-put_mid from (from + k - from) bytes source (from + k) (omega (arith, ap length e, n, length-take k part)) (omega arith)
    ∙ (ap₂ (λ (i : ℕ) (l : List ℕ). take i bytes ++ l) behind (e ∙ (ap (λ (i : ℕ). take i part) n ∙ take_min (room - from) part))
    ∙ (ap₂ (λ (l : List ℕ) (i : ℕ). l ++ take i part) (sym (take_all room (take filled bytes) (omega (arith, front)))) (omega (arith, front))
    ∙ sym (take_append room (take filled bytes) part)))
  where
    front : length (take filled bytes) ≡ filled
    front = length-take-le filled bytes (omega arith)

-- An answer and its newline behind the output that waits, as the line's answer and what is appended leave it.
pub put_behind : (line before bytes shown after : List ℕ) (filled from k r room : ℕ) → take filled bytes ≡ before
    → length before + output_room (length line) 0 ≤ room → filled ≤ room → length bytes ≡ room → from ≡ filled → k ≡ room - from → AnswerShown line (take k (drop from bytes)) r shown
    → after ≡ take room (take (from + r) (put_mid from k bytes shown) ++ newline ∷ []) → Behind line before after
put_behind line before bytes shown after filled from k r room kept fits inside long behind rest A e =
    record {
      text = A.text;
      answers = A.answers;
      is = is;
      room = omega (arith, ap length is, most, length-append before (A.text ++ newline ∷ []), length-append A.text (newline ∷ []));
    }
  where
    over : List ℕ
    over = take k (drop from bytes)

    front : take from bytes ≡ before
    front = ap (λ (n : ℕ). take n bytes) behind ∙ kept

    waits : length before ≡ from
    waits = ap length (sym front) ∙ length-take-le from bytes (omega arith)

    most : length A.text ≤ length line + 6
    most = answers_room line A.text A.answers

    has_room : leb (length A.text) (length over) ≡ true
    has_room = le-leb (length A.text) (length over) (omega (arith, most, waits, length-take k (drop from bytes), length-drop from bytes))

    r_is : r ≡ length A.text
    r_is = A.shown.long ∙ ap (λ (t : Bool). pick t (length A.text) 0) has_room

    shown_is : shown ≡ A.text ++ drop (length A.text) over
    shown_is = A.shown.area ∙ ap (λ (t : Bool). pick t (A.text ++ drop (length A.text) over) over) has_room

    front_long : length (before ++ A.text) ≡ from + r
    front_long = length-append before A.text ∙ ap₂ ◌+◌ waits (sym r_is)

    front_is : take (from + r) (put_mid from k bytes shown) ≡ before ++ A.text
    front_is =
        ap₂ (λ (f l : List ℕ). take (from + r) (f ++ (l ++ drop k (drop from bytes)))) front shown_is
        ∙ (ap (take (from + r))
        (ap (λ (l : List ℕ). before ++ l) (append_assoc A.text (drop (length A.text) over) (drop k (drop from bytes)))
        ∙ sym (append_assoc before A.text (drop (length A.text) over ++ drop k (drop from bytes))))
        ∙ take_at (before ++ A.text) (drop (length A.text) over ++ drop k (drop from bytes)) (from + r) front_long)

    is : after ≡ before ++ (A.text ++ newline ∷ [])
    is =
        e
        ∙ (ap (λ (l : List ℕ). take room (l ++ newline ∷ [])) front_is
        ∙ (take_all room ((before ++ A.text) ++ newline ∷ []) (omega (arith, most, waits, length-append before A.text, length-append (before ++ A.text) (newline ∷ [])))
        ∙ append_assoc before A.text (newline ∷ [])))

-- Outputs behind one another.
pub output_append : {ls ms : List (List ℕ)} {s t : List ℕ} → Output ls s → Output ms t → Output (ls ++ ms) (s ++ t)
output_append none b = b
output_append {ms = ms} {t = t} (next line text lines rest a o) b =
    subst (Output (line ∷ (lines ++ ms))) (sym (append_assoc text (newline ∷ rest) t)) (next line text (lines ++ ms) (rest ++ t) a (output_append o b))

pub output_more : {ls : List (List ℕ)} {s : List ℕ} (line text : List ℕ) → Output ls s → Answers line text
    → Output (ls ++ line ∷ []) (s ++ (text ++ newline ∷ []))
output_more line text o a = output_append o (next line text [] [] a none)

-- The line that is kept gets the answer of the line that it begins.
pub line_answered : (room : ℕ) → most_characters < room → (line text kept : List ℕ) → kept ≡ take room line → Answers kept text → Answers line text
line_answered room h line text kept e a = answers_kept room h line text (subst (λ (l : List ℕ). Answers l text) e a)

-- A line grows by what came of it at most.
pub kept_few : (room end : ℕ) (line rest kept : List ℕ) → kept ≡ take room (line ++ take end rest) → length kept ≤ min room (length line) + end
kept_few room end line rest kept e =
    omega (arith, ap length e, length-take room (line ++ take end rest), length-append line (take end rest), length-take end rest)

-- Where `begun` of a line came before it, a text was read but for `rest`: `line` is kept, and the answers to the lines that ended are the output.
pub record Reached (room : ℕ) (begun text line rest output : List ℕ) : Type 0 where
  pub now_begun : List ℕ
  pub done : List (List ℕ)
  pub kept : Kept now_begun (kept_line room line)
  pub answered : Output done output
  pub lines : lines_of begun text ≡ done ++ lines_of now_begun rest
  pub last : rest_of begun text ≡ rest_of now_begun rest

-- Nothing was read yet.
pub reached_none : (room : ℕ) (begun text line output : List ℕ) → Kept begun (kept_line room line) → output ≡ [] → Reached room begun text line text output
reached_none room begun text line output K e =
    record { now_begun = begun; done = []; kept = K; answered = subst (Output []) (sym e) none; lines = refl; last = refl }

pub found : (l : List ℕ) (end : ℕ) → position is_newline l ≡ Some end → (position_or_len is_newline l ≡ end) × (end < length l)
found l end e = at (nat_lt (position_or_len is_newline l) (length l)) refl e
  where
    at : (b : Bool) → nat_lt (position_or_len is_newline l) (length l) ≡ b → cond b (Some (position_or_len is_newline l)) None ≡ Some end
        → (position_or_len is_newline l ≡ end) × (end < length l)
    at true h e = let here : position_or_len is_newline l ≡ end = cc in (here, omega (arith, ltb-true _ _ h))
    at false h e = absurd (let z : ◌≡◌ {A = ℕ} 0 1 = cc in omega arith)

not_found : (l : List ℕ) → position is_newline l ≡ None → position_or_len is_newline l ≡ length l
not_found l e = at (nat_lt (position_or_len is_newline l) (length l)) refl e
  where
    at : (b : Bool) → nat_lt (position_or_len is_newline l) (length l) ≡ b → cond b (Some (position_or_len is_newline l)) None ≡ None
        → position_or_len is_newline l ≡ length l
    at true h e = absurd (let z : ◌≡◌ {A = ℕ} 0 1 = cc in omega arith)
    at false h e = omega (arith, ltb-false _ _ h, prefix_len-le-length (λ c. not (is_newline c)) l)

-- Up to the next newline, which ends a line; it was answered.
pub reached_ended : (room : ℕ) → most_characters < room → (begun text line rest output output' : List ℕ) (end : ℕ) → Reached room begun text line rest output
    → position is_newline rest ≡ Some end → (kept line' : List ℕ) → kept ≡ take room (line ++ take end rest) → Behind kept output output' → line' ≡ []
    → Reached room begun text line' (take (length rest - (end + 1)) (drop (end + 1) rest)) output'
reached_ended room h begun text line rest output output' end R e kept line' kept_is B none_kept =
    record {
      now_begun = [];
      done = R.done ++ whole ∷ [];
      kept = none_kept ∙ sym (take-nil room);
      answered = subst (Output (R.done ++ whole ∷ [])) (sym B.is) (output_more whole B.text R.answered (line_answered room h whole B.text kept whole_kept B.answers));
      lines =
          R.lines
          ∙ (ap (λ (l : List (List ℕ)). R.done ++ l) (lines_ended R.now_begun rest end (found rest end e).0 (found rest end e).1)
          ∙ (sym (append_assoc R.done (whole ∷ []) (lines_of [] (drop (suc end) rest)))
          ∙ ap (λ (l : List ℕ). (R.done ++ whole ∷ []) ++ lines_of [] l) (sym others)));
      last = R.last ∙ (rest_ended R.now_begun rest end (found rest end e).0 (found rest end e).1 ∙ ap (rest_of []) (sym others));
    }
  where
    whole : List ℕ
    whole = R.now_begun ++ take end rest

    whole_kept : kept ≡ take room whole
    whole_kept = kept_is ∙ (ap (λ (l : List ℕ). take room (l ++ take end rest)) R.kept ∙ kept_more room R.now_begun (take end rest))

    others : take (length rest - (end + 1)) (drop (end + 1) rest) ≡ drop (suc end) rest
    others = take_rest rest (end + 1) ∙ ap (λ (i : ℕ). drop i rest) (add-one end)

-- To the end of the text, in which no newline is left.
pub reached_all : (room : ℕ) (begun text line rest output part line' : List ℕ) → Reached room begun text line rest output → position is_newline rest ≡ None
    → part ≡ rest → line' ≡ take room (line ++ part) → Output (lines_of begun text) output × Kept (rest_of begun text) (kept_line room line')
reached_all room begun text line rest output part line' R e whole kept_is = (
  subst (λ (l : List (List ℕ)). Output l output)
      (sym (R.lines ∙ (ap (λ (l : List (List ℕ)). R.done ++ l) (lines_unended R.now_begun rest (not_found rest e)) ∙ append-nil R.done))) R.answered,
  kept_is
      ∙ ap₂ (λ (l p : List ℕ). take room (l ++ p)) R.kept whole
      ∙ (kept_more room R.now_begun rest ∙ ap (take room) (sym (R.last ∙ rest_unended R.now_begun rest (not_found rest e)))),
)

-- The last line of an input, where no newline ends it; an empty one is none.
pub last_answered : (room : ℕ) → most_characters < room → (begun line before output : List ℕ) → Kept begun (kept_line room line) → (length line ≡ 0 → ⊥)
    → before ≡ [] → Behind line before output → Output (last_of begun) output
unfolding last_of
last_answered room h [] line before output K some e B = absurd (some (ap length K ∙ ap length (take-nil room)))
last_answered room h (c ∷ begun) line before output K some e B =
    subst (Output ((c ∷ begun) ∷ [])) (sym (B.is ∙ ap (λ (l : List ℕ). l ++ (B.text ++ newline ∷ [])) e))
    (next (c ∷ begun) B.text [] [] (line_answered room h (c ∷ begun) B.text line K B.answers) none)

pub last_none : (room : ℕ) → most_characters < room → (begun line output : List ℕ) → Kept begun (kept_line room line) → length line ≡ 0 → output ≡ []
    → Output (last_of begun) output
unfolding last_of
last_none room h [] line output K none_kept e = subst (Output []) (sym e) none
last_none zero h (c ∷ begun) line output K none_kept e = absurd (omega arith)
last_none (suc room) h (c ∷ begun) line output K none_kept e = absurd (omega (arith, ap length K))

-- A text came.
pub came_turn : (read : Option (List ℕ)) (text : List ℕ) (line line' : KeptLine) (written : List ℕ) → read ≡ Some text → (length text ≡ 0 → ⊥)
    → TextAnswered text line line' written → Turned read line line' written
came_turn read [] line line' written e some all = absurd (some refl)
came_turn read (c ∷ text) line line' written e some all = came c text e all
