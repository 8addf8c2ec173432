-- A text that is written part by part at the front of a lent area.
-- Holds: `placed_none`, `placed_part`, `behind_both`; `shown_whole`, `shown_none`, `shown_success`; `number_long`, `refusal_long`,
-- `head_long`, `opening_long`, `success_long` (lengths of what is written).
use mathlib.Core.Path.{◌≡◌, refl, sym, ap, ap₂, subst, ◌∙◌}
use mathlib.Core.Bool.{Bool, true, false}
use mathlib.Core.List.{List, [], ◌++◌, map, append_assoc}
use Prim.Native.Nat.{ℕ, ◌+◌, ◌-◌, ◌≤◌, ◌<◌}
use native.Mathlib.Omega.{arith}
use lib.Dec.{leb}
use lib.ListN.{length, take, drop, length-append, length-map}
use lib.Seq.{take_at, drop-append-add, drop-drop}
use borrow.Author.Tests.{le-leb, lt-leb}
use borrow.Rule.Slice.PartMut.{put_mid, Post-is}
use Rattle.algebra.specs.Ops.{pick}
use Rattle.line.specs.Characters.{character_of, hex}
use Rattle.line.specs.Heads.{head_length, Head, head_text}
use Rattle.line.specs.Answering.{opening, success, Shown}
use Rattle.line.specs.parts.Writing.{Placed, WrittenBehind}
use Rattle.line.proofs.Hex.{length_hex}

pub placed_none : (before : List ℕ) → Placed [] before before
placed_none before = record { is = refl; room = omega arith }

-- The next part stands behind the text.
pub placed_part : (done part before area : List ℕ) (from to : ℕ) → length done ≡ from → length part ≡ to - from → from ≤ to → to ≤ length before
    → Placed done before area → Placed (done ++ part) before (put_mid from (to - from) area part)
placed_part done part before area from to start long order room w =
    record { is = whole; room = omega (arith, length-append done part) }
  where
    front : take from area ≡ done
    front = ap (take from) w.is ∙ take_at done (drop (length done) before) from start

    place : to ≡ length done + length part
    place = omega arith

    both : length (done ++ part) ≡ to
    both = omega (arith, length-append done part)

    rest : drop to area ≡ drop (length (done ++ part)) before
    rest =
        ap₂ (λ (t : ℕ) (l : List ℕ). drop t l) place w.is
        ∙ (drop-append-add done (drop (length done) before) (length part)
        ∙ (drop-drop (length part) (length done) before ∙ ap (λ (t : ℕ). drop t before) (sym (length-append done part))))

    whole : put_mid from (to - from) area part ≡ (done ++ part) ++ drop (length (done ++ part)) before
    whole =
        ap₂ (λ (a b : List ℕ). a ++ (part ++ b)) front (Post-is from to area order ∙ rest)
        ∙ sym (append_assoc done part (drop (length (done ++ part)) before))

-- Two parts, one behind the other, are one.
pub behind_both : {from to : ℕ} {a b x y z : List ℕ} → WrittenBehind from a x y → WrittenBehind to b y z → to ≡ from + length a
    → WrittenBehind from (a ++ b) x z
behind_both {from} {to} {a} {b} {x} {y} {z} A B e =
    record {
      long = B.long ∙ A.long;
      behind =
          λ {done} {start} f w. subst (λ (t : List ℕ). Placed t start z) (append_assoc done a b)
          (B.behind (length-append done a ∙ (ap (λ (t : ℕ). t + length a) f ∙ sym e)) (A.behind f w));
    }

-- The lengths of output lines, part by part.
number_next : (done : List ℕ) (count number from : ℕ) → length done ≡ from → length (done ++ hex count number) ≡ from + count
number_next done count number from e = omega (arith, length-append done (hex count number), length_hex count number)

pub number_long : (a : ℕ) → length (hex 2 a) ≡ 2
number_long a = length_hex 2 a

pub refusal_long : (a b : ℕ) → length (hex 2 a ++ hex 4 b) ≡ 6
refusal_long a b = number_next (hex 2 a) 4 b 2 (number_long a)

pub head_long : (head : Head) → length (head_text head) ≡ head_length head.form
head_long head = number_next (hex 1 (head.form.above + head.setting)) head.form.digits head.blocks 1 (length_hex 1 (head.form.above + head.setting))

pub opening_long : (count : ℕ) (head : Head) → length (opening count head) ≡ 6 + head_length head.form
opening_long count head = omega (arith, length-append (hex 2 0 ++ hex 4 count) (head_text head), refusal_long 0 count, head_long head)

-- The whole text is there, or there was no room for it.
pub shown_whole : (text before area : List ℕ) (r : ℕ) → length text ≡ r → Placed text before area → Shown text before r area
shown_whole text before area r e w =
    let room : leb (length text) (length before) ≡ true = le-leb (length text) (length before) w.room in
    record {
      long = sym (ap (λ (t : Bool). pick t (length text) 0) room ∙ e);
      area = w.is ∙ sym (ap (λ (t : Bool). pick t (text ++ drop (length text) before) before) room);
    }

pub shown_none : (text before : List ℕ) → length before < length text → Shown text before 0 before
shown_none text before h =
    let none : leb (length text) (length before) ≡ false = lt-leb (length text) (length before) h in
    record {
      long = sym (ap (λ (t : Bool). pick t (length text) 0) none);
      area = sym (ap (λ (t : Bool). pick t (text ++ drop (length text) before) before) none);
    }

-- A success line: its length, and its message written behind the opening.
module _ (count : ℕ) (head : Head) (message : List ℕ) where
  pub success_long : length (success count head message) ≡ 6 + head_length head.form + length message
  success_long =
      omega (arith, length-append (opening count head) (map character_of message), opening_long count head, length-map message character_of)

  pub shown_success : (before area : List ℕ) {part : List ℕ} (start : ℕ) → start ≡ 6 + head_length head.form → start + length message ≤ length before
      → part ≡ map character_of message → Placed (opening count head) before area
      → Shown (success count head message) before (start + length message) (put_mid start (start + length message - start) area part)
  shown_success before area {part} start s room p w =
      let symbols : length part ≡ start + length message - start = omega (arith, ap length p, length-map message character_of) in
      let whole : length (success count head message) ≡ start + length message = omega (arith, success_long) in
      shown_whole (success count head message) before _ (start + length message) whole
      (subst (λ (t : List ℕ). Placed (opening count head ++ t) before (put_mid start (start + length message - start) area part)) p
      (placed_part (opening count head) part before area start (start + length message) (opening_long count head ∙ sym s) symbols (omega arith) room w))
