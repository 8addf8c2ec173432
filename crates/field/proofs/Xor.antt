-- Exclusive or of numbers: the laws of addition that the kit lacks.
-- Holds: `xor_assoc`, `xor_left_comm`, `xor_swap` (of two sums), `xor_double` (doubling passes through).
use mathlib.Core.Path.{◌≡◌, refl, sym, ap, ap₂, ◌∙◌}
use Prim.Native.Nat.{ℕ, ◌+◌, ◌*◌, ◌/◌, ◌%◌, ◌<◌}
use native.Mathlib.Nat.{div-add-mod', mod-lt, add-zero}
use lib.Arith.{bin_ind}
use lib.Bits.{bit_xor, xor_shr, xor_mod, xor_comm, xor_block}
use lib.Dec.{lit<}
use Rattle.algebra.proofs.Tests.{all, same_triples}

bits_assoc : (a b c : ℕ) → a < 2 → b < 2 → c < 2 → bit_xor (bit_xor a b) c ≡ bit_xor a (bit_xor b c)
unfolding all
bits_assoc = same_triples 2 (λ a b c. bit_xor (bit_xor a b) c) (λ a b c. bit_xor a (bit_xor b c)) tt

-- Numbers with equal halves and equal lowest bits are equal.
by_bits : (a b : ℕ) → a / 2 ≡ b / 2 → a % 2 ≡ b % 2 → a ≡ b
by_bits a b p e = sym (div-add-mod' a 2) ∙ ap₂ (λ (x y : ℕ). x * 2 + y) p e ∙ div-add-mod' b 2

pub xor_assoc : (a b c : ℕ) → bit_xor (bit_xor a b) c ≡ bit_xor a (bit_xor b c)
xor_assoc a =
    bin_ind (λ (n : ℕ). (b c : ℕ) → bit_xor (bit_xor n b) c ≡ bit_xor n (bit_xor b c)) (λ b c. refl)
    (λ n ih b c. by_bits (bit_xor (bit_xor n b) c) (bit_xor n (bit_xor b c)) (halves n b c (ih (b / 2) (c / 2))) (lowest n b c)) a
  where
    halves : (n b c : ℕ) → bit_xor (bit_xor (n / 2) (b / 2)) (c / 2) ≡ bit_xor (n / 2) (bit_xor (b / 2) (c / 2))
        → bit_xor (bit_xor n b) c / 2 ≡ bit_xor n (bit_xor b c) / 2
    halves n b c e =
        xor_shr (bit_xor n b) c 1 ∙ ap (λ (x : ℕ). bit_xor x (c / 2)) (xor_shr n b 1) ∙ e
        ∙ sym (xor_shr n (bit_xor b c) 1 ∙ ap (λ (x : ℕ). bit_xor (n / 2) x) (xor_shr b c 1))

    bit : (n : ℕ) → n % 2 < 2
    bit n = mod-lt n (lit< tt)

    lowest : (n b c : ℕ) → bit_xor (bit_xor n b) c % 2 ≡ bit_xor n (bit_xor b c) % 2
    lowest n b c =
        xor_mod (bit_xor n b) c 1 ∙ ap (λ (x : ℕ). bit_xor x (c % 2)) (xor_mod n b 1) ∙ bits_assoc (n % 2) (b % 2) (c % 2) (bit n) (bit b) (bit c)
        ∙ sym (xor_mod n (bit_xor b c) 1 ∙ ap (λ (x : ℕ). bit_xor (n % 2) x) (xor_mod b c 1))

pub xor_left_comm : (a b c : ℕ) → bit_xor a (bit_xor b c) ≡ bit_xor b (bit_xor a c)
xor_left_comm a b c = sym (xor_assoc a b c) ∙ ap (λ (x : ℕ). bit_xor x c) (xor_comm a b) ∙ xor_assoc b a c

pub xor_swap : (a b c d : ℕ) → bit_xor (bit_xor a b) (bit_xor c d) ≡ bit_xor (bit_xor a c) (bit_xor b d)
xor_swap a b c d = xor_assoc a b (bit_xor c d) ∙ ap (bit_xor a) (xor_left_comm b c d) ∙ sym (xor_assoc a c (bit_xor b d))

pub xor_double : (a b : ℕ) → bit_xor (a * 2) (b * 2) ≡ bit_xor a b * 2
xor_double a b =
    ap₂ bit_xor (sym (add-zero (a * 2))) (sym (add-zero (b * 2))) ∙ xor_block 1 a b 0 0 (lit< tt) (lit< tt) ∙ add-zero (bit_xor a b * 2)
