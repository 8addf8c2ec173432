-- Numbers in digits, as a loop writes them from the last place back. Holds: `length_hex`, `hex_back`, `hex_all`; `number_read`, a number is read as it was
-- written; `hex_read`, digits are written as they were read; `hex_digits`, digits are written.
use mathlib.Core.Path.{◌≡◌, refl, sym, ap, ap₂, subst, ◌∙◌}
use mathlib.Core.Bool.{true}
use mathlib.Core.List.{List, [], ◌∷◌, ◌++◌, append_assoc, append-nil}
use Prim.Native.Nat.{ℕ, zero, suc, ◌+◌, ◌-◌, ◌*◌, ◌/◌, ◌%◌, ◌≤◌, ◌<◌}
use native.Mathlib.Omega.{arith}
use lib.ListN.{length, drop, set, length-append, length-set}
use lib.Seq.{drop-cons, drop-set-lt, get_or-set_same}
use borrow.Author.Tests.{ltb-true, lt-ltb}
use Rattle.std.specs.List.{AllPass}
use Rattle.std.proofs.lemmas.List.Elements.{All-nil, All-head, All-tail, All-push}
use Rattle.line.specs.Characters.{digit_of, character_of, hex, number_from, number_in, NumberRead}
use Rattle.line.specs.Questions.{is_digit}
use Rattle.line.proofs.Digits.{digit_back, character_back}

pub length_hex : (count number : ℕ) → length (hex count number) ≡ count
unfolding hex
length_hex zero number = refl
length_hex (suc count) number =
    let front : length (hex count (number / 16)) ≡ count = length_hex count (number / 16) in
    omega (arith, length-append (hex count (number / 16)) (character_of (number % 16) ∷ []))

-- What stands from place j on after a store there.
stored : (l : List ℕ) (j v : ℕ) → j < length l → drop j (set l j v) ≡ v ∷ drop (suc j) l
stored l j v h =
    let inside : j < length (set l j v) = omega (arith, length-set l j v) in
    drop-cons (set l j v) j 0 inside ∙ ap₂ (λ (a : ℕ) (b : List ℕ). a ∷ b) (get_or-set_same l j v 0 h) (drop-set-lt (suc j) l j v (omega arith))

-- The digits from place i on are written; one more.
hex_before : (j left v : ℕ) (whole l : List ℕ) → j < length l → v ≡ character_of (left % 16) → whole ≡ hex (suc j) left ++ drop (suc j) l
    → whole ≡ hex j (left / 16) ++ drop j (set l j v)
unfolding hex
hex_before j left v whole l h e w =
    w ∙ (append_assoc (hex j (left / 16)) (character_of (left % 16) ∷ []) (drop (suc j) l)
    ∙ ap (λ (t : List ℕ). hex j (left / 16) ++ t) (ap (λ (t : ℕ). t ∷ drop (suc j) l) (sym e) ∙ sym (stored l j v h)))

pub hex_back : (i left v : ℕ) (whole l : List ℕ) → 0 < i → i ≤ length l → v ≡ character_of (left % 16) → whole ≡ hex i left ++ drop i l
    → whole ≡ hex (i - 1) (left / 16) ++ drop (i - 1) (set l (i - 1) v)
hex_back i left v whole l positive h e w =
    let next : i ≡ suc (i - 1) = omega arith in
    hex_before (i - 1) left v whole l (omega arith) e (subst (λ (t : ℕ). whole ≡ hex t left ++ drop t l) next w)

pub hex_all : (i left : ℕ) (whole l : List ℕ) → i ≡ 0 → whole ≡ hex i left ++ drop i l → l ≡ whole
unfolding hex
hex_all i left whole l e w = sym (subst (λ (t : ℕ). whole ≡ hex t left ++ drop t l) e w)

-- What digits with one more behind them say.
number_behind : (high : ℕ) (digits : List ℕ) (c : ℕ) → number_from high (digits ++ c ∷ []) ≡ number_from high digits * 16 + digit_of c
unfolding number_from
number_behind high [] c = refl
number_behind high (x ∷ digits) c = number_behind (high * 16 + digit_of x) digits c

-- A number is read as it was written ..
pub number_read : NumberRead
unfolding hex number_from
number_read zero number h = omega arith
number_read (suc count) number h =
    let front : number_in (hex count (number / 16)) ≡ number / 16 = number_read count (number / 16) (omega arith) in
    let last : digit_of (character_of (number % 16)) ≡ number % 16 = digit_back (number % 16) (omega arith) in
    omega (arith, number_behind 0 (hex count (number / 16)) (character_of (number % 16)))

-- .. and digits are written as they were read, here behind `count` more of what those before them say.
hex_behind : (digits : List ℕ) (count high whole : ℕ) → whole ≡ count + length digits → AllPass is_digit digits
    → hex whole (number_from high digits) ≡ hex count high ++ digits
unfolding hex number_from
hex_behind [] count high whole e all =
    let same : whole ≡ count = omega arith in ap (λ (t : ℕ). hex t high) same ∙ sym (append-nil (hex count high))
hex_behind (c ∷ digits) count high whole e all =
    let small : digit_of c < 16 = ltb-true (digit_of c) 16 (All-head (λ x. is_digit x ≡ true) c digits all) in
    let rest = hex_behind digits (suc count) (high * 16 + digit_of c) whole (omega arith) (All-tail (λ x. is_digit x ≡ true) c digits all) in
    let before : (high * 16 + digit_of c) / 16 ≡ high = omega arith in
    let here : (high * 16 + digit_of c) % 16 ≡ digit_of c = omega arith in
    rest ∙ simp (before, here, character_back c small, append_assoc)

pub hex_read : (digits : List ℕ) → AllPass is_digit digits → hex (length digits) (number_in digits) ≡ digits
unfolding hex
hex_read digits all = hex_behind digits 0 0 (length digits) (omega arith) all

-- Digits are written.
pub hex_digits : (count number : ℕ) → AllPass is_digit (hex count number)
unfolding hex
hex_digits zero number = All-nil (λ c. is_digit c ≡ true)
hex_digits (suc count) number =
    let last : digit_of (character_of (number % 16)) < 16 = omega (arith, digit_back (number % 16) (omega arith)) in
    All-push (λ c. is_digit c ≡ true) (hex count (number / 16)) (character_of (number % 16)) (hex_digits count (number / 16)) (lt-ltb _ 16 last)
