-- Lists as areas hold them: block by block, made from a rule, one after another, and with another front.
-- Holds: `view`, a list as blocks; `part_at`, a part of a list of parts; `tabulate`; `in_turn`, lists one after another; `overwritten`, an area with bytes at
-- its front.
use Rattle.std.specs.Prelude.{List, [], ◌∷◌, ◌++◌, ℕ, zero, suc, ◌+◌, ◌*◌, length, get_or, take, drop}

-- Symbol i of block s of a list of blocks of w symbols, 0 past its end.
abbrev pub view : ℕ → List ℕ → ℕ → ℕ → ℕ
view w l s i = get_or l (s * w + i) 0

-- Part f of a list of parts of this size.
abbrev pub part_at : ℕ → ℕ → List ℕ → List ℕ
part_at size f l = take size (drop (f * size) l)

-- f 0, .., f (n-1)
unfoldable pub tabulate {ℓ} : {A : Type ℓ} → ℕ → (ℕ → A) → List A
tabulate zero f = []
tabulate (suc n) f = f 0 ∷ tabulate n (λ i. f (suc i))

-- g 0, then g 1, .., then g (n-1).
unfoldable pub in_turn : ℕ → (ℕ → List ℕ) → List ℕ
in_turn zero g = []
in_turn (suc n) g = g 0 ++ in_turn n (λ f. g (suc f))

-- An area after bytes were put at its front: "bytes past those places never change".
abbrev pub overwritten : List ℕ → List ℕ → List ℕ
overwritten front area = front ++ drop (length front) area
