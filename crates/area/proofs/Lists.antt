-- Lists as blocks: tabulated lists, symbols of a list, equal parts.
-- Holds: `length_tabulate`, `get_d_tabulate`, `tabulated`, `view_tabulate`, `get_d_zeros`, `equal_part`, `part_equal`;
-- `filled`, `stored` (a loop that fills places); `place_in_blocks`, `blocks_hold`, `equal_blocks`, `window_view` (places by block and symbol).
use mathlib.Core.Path.{◌≡◌, refl, sym, ap, ◌∙◌, subst}
use mathlib.Core.List.{List}
use Prim.Native.Nat.{ℕ, zero, suc, ◌+◌, ◌*◌, ◌/◌, ◌%◌, ◌≤◌, ◌<◌}
use native.Mathlib.Nat.{div-lt_iff_lt-mul, mod-lt, div-add-mod'}
use native.Mathlib.Omega.{arith}
use native.Mathlib.Decide.{ℕ_discrete}
use lib.Arith.{digits_div, digits_mod, digits_lt}
use lib.ListN.{length, get_or, take, drop, set, replicate, length-take}
use lib.Seq.{ext_get_or, get_or-take, get_or-drop, get_or-set_same, get_or-set_other}
use Rattle.std.proofs.Common.{rules}
use Rattle.std.proofs.lemmas.List.{places}
use Rattle.area.specs.Lists.{view, tabulate}

pub length_tabulate : {A : Type 0} (n : ℕ) (f : ℕ → A) → length (tabulate n f) ≡ n
unfolding tabulate
length_tabulate zero f = refl
length_tabulate (suc n) f = ap suc (length_tabulate n (λ i. f (suc i)))

pub get_d_tabulate : {A : Type 0} (n : ℕ) (f : ℕ → A) (i : ℕ) (d : A) → i < n → get_or (tabulate n f) i d ≡ f i
unfolding tabulate
get_d_tabulate zero f i d l = absurd (omega arith)
get_d_tabulate (suc n) f zero d l = refl
get_d_tabulate (suc n) f (suc i) d l = get_d_tabulate n (λ i. f (suc i)) i d (omega arith)

-- A list whose symbols are known is tabulated.
pub tabulated : (l : List ℕ) (n : ℕ) (f : ℕ → ℕ) → length l ≡ n → ((i : ℕ) → i < n → get_or l i 0 ≡ f i) → l ≡ tabulate n f
tabulated l n f long h =
    ext_get_or 0 l (tabulate n f) (long ∙ sym (length_tabulate n f))
    (λ i below. let within : i < n = omega (arith, long) in h i within ∙ sym (get_d_tabulate n f i 0 within))

-- Symbol i of block s of a tabulated frame.
pub view_tabulate : (blocks w : ℕ) (f : ℕ → ℕ → ℕ) (s i : ℕ) → s < blocks → i < w
    → view w (tabulate (blocks * w) (λ a. f (a / w) (a % w))) s i ≡ f s i
view_tabulate blocks w f s i l h =
    get_d_tabulate (blocks * w) (λ a. f (a / w) (a % w)) (s * w + i) 0 (digits_lt l h)
    ∙ ap (λ (t : ℕ). f t ((s * w + i) % w)) (digits_div s h) ∙ ap (f s) (digits_mod s h)

-- Zeros hold zero at any place, and past their end.
pub get_d_zeros : (n i : ℕ) → ◌≡◌ {A = ℕ} (get_or (replicate n 0) i 0) 0
get_d_zeros n i = search (rules, places)

-- Lists with equal beginnings have equal symbols there..
pub equal_part : (a b : List ℕ) (n : ℕ) → take n a ≡ take n b → (i : ℕ) → i < n → get_or a i 0 ≡ get_or b i 0
equal_part a b n e i l = search (rules, places)

-- .. and the other way round.
pub part_equal : (a b : List ℕ) (n : ℕ) → n ≤ length a → n ≤ length b → ((i : ℕ) → i < n → get_or a i 0 ≡ get_or b i 0) → take n a ≡ take n b
part_equal a b n la lb h =
    let long_a : length (take n a) ≡ n = omega (arith, length-take n a) in
    let long_b : length (take n b) ≡ n = omega (arith, length-take n b) in
    ext_get_or 0 (take n a) (take n b) (long_a ∙ sym long_b)
    (λ i l. let below : i < n = omega arith in get_or-take n a i 0 below ∙ (h i below ∙ sym (get_or-take n b i 0 below)))

-- A loop fills places one after the other: place a is to hold what is right for a, it does for a < i, and what is right for i is stored in place i.
pub filled : {A : Type 0} (none : A) (l : List A) (place : ℕ → ℕ) (right : ℕ → A → Type 0) (i : ℕ) (v : A) → place i < length l → right i v
    → ((a : ℕ) → a < i → place a ≡ place i → ⊥) → ((a : ℕ) → a < i → right a (get_or l (place a) none))
    → (a : ℕ) → a < i + 1 → right a (get_or (set l (place i) v) (place a) none)
filled {A} none l place right i v room e apart before a h = at (ℕ_discrete a i)
  where
    at : Dec (a ≡ i) → right a (get_or (set l (place i) v) (place a) none)
    at (yes s) = subst (λ (t : ℕ). right t (get_or (set l (place i) v) (place t) none)) (sym s) (subst (right i) (sym (get_or-set_same l (place i) v none room)) e)
    at (no d) = let below : a < i = omega arith in subst (right a) (sym (get_or-set_other l (place i) (place a) v none (apart a below))) (before a below)

-- The same where place a is to hold f a.
pub stored : (l : List ℕ) (place f : ℕ → ℕ) (i v : ℕ) → place i < length l → v ≡ f i → ((a : ℕ) → a < i → place a ≡ place i → ⊥)
    → ((a : ℕ) → a < i → get_or l (place a) 0 ≡ f a) → (a : ℕ) → a < i + 1 → get_or (set l (place i) v) (place a) 0 ≡ f a
stored l place f = filled 0 l place (λ a x. x ≡ f a)

-- A place of a list of blocks of w symbols is a block and a symbol of it.
pub place_in_blocks : (j i w : ℕ) → 1 ≤ w → i < j * w → (i / w < j) × (i % w < w) × (i / w * w + i % w ≡ i)
place_in_blocks j i w h l = ((div-lt_iff_lt-mul h).1 l, mod-lt i h, div-add-mod' i w)

-- Where there is a place, a block has symbols.
pub blocks_hold : (j i w : ℕ) → i < j * w → 1 ≤ w
blocks_hold j i zero l = absurd (omega arith)
blocks_hold j i (suc w) l = omega arith

-- Lists of j blocks of w symbols that agree symbol by symbol of every block.
pub equal_blocks : (j w : ℕ) (a b : List ℕ) → length a ≡ j * w → length b ≡ j * w → ((s i : ℕ) → s < j → i < w → view w a s i ≡ view w b s i) → a ≡ b
equal_blocks j w a b la lb h =
    ext_get_or 0 a b (la ∙ sym lb)
    (λ i l.
    let within : i < j * w = omega (arith, la) in
    let place = place_in_blocks j i w (blocks_hold j i w within) within in
    subst (λ (t : ℕ). get_or a t 0 ≡ get_or b t 0) place.2 (h (i / w) (i % w) place.0 place.1))

-- Symbol i of block s of window j of a list of blocks.
pub window_view : (n m : ℕ) (list : List ℕ) (j s i : ℕ) → s ≤ m → i < n
    → view n (take ((m + 1) * n) (drop (j * n) list)) s i ≡ view n list (j + s) i
window_view n m list j s i low h =
    let top : s < m + 1 = omega arith in
    let place : j * n + (s * n + i) ≡ (j + s) * n + i = omega arith in
    get_or-take ((m + 1) * n) (drop (j * n) list) (s * n + i) 0 (digits_lt top h)
    ∙ (get_or-drop (j * n) list (s * n + i) 0 ∙ ap (λ (t : ℕ). get_or list t 0) place)
