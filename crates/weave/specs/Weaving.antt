-- Frames woven against bursts (02, #104), on lists, and what the calls that weave and unweave promise.
-- Holds: `transposed`; `woven`, `unwoven`; `WovenPlace`, where a symbol goes; `Undone`, `Rewoven`, that each is the exact undoing of the other; `Laid`, a call;
-- `CallUndone`; `woven_samples`.
use Rattle.std.specs.Prelude.{◌≡◌, refl, List, [], ◌∷◌, ◌++◌, ℕ, ◌+◌, ◌*◌, ◌/◌, ◌%◌, ◌≤◌, ◌<◌, eqb, length, get_or, take, drop}
use Rattle.algebra.specs.Ops.{pick}
use Rattle.area.specs.Lists.{tabulate}
use Rattle.question.specs.declared.answer.Answer.{Answer}
use Rattle.question.specs.Questions.{answer, first_no, weaving_questions}

-- Rows of `columns` symbols, one after another, taken column by column: symbol i of row f goes to i × rows + f.
unfoldable pub transposed : ℕ → ℕ → List ℕ → List ℕ
transposed rows columns l = tabulate (rows * columns) (λ s. get_or l (s % rows * columns + s / rows) 0)

-- "Weave D frames of one setting and length: symbol i of frame f goes to i × D + f." The frames come one after another.
abbrev pub woven : ℕ → List ℕ → List ℕ
woven D frames = transposed D (length frames / D) frames

-- The frames of a woven area again, one after another.
abbrev pub unwoven : ℕ → List ℕ → List ℕ
unwoven D area = transposed (length area / D) D area

-- In 02's words, of D frames of any length: symbol i of frame f stands at i × D + f (`woven_place`, proofs/Weaving).
abbrev pub WovenPlace : Type 0
WovenPlace = (D long f i : ℕ) (frames : List ℕ) → length frames ≡ D * long → f < D → i < long
    → get_or (woven D frames) (i * D + f) 0 ≡ get_or frames (f * long + i) 0

-- "weaving and unweaving, each the exact undoing of the other" (`undone`, `rewoven`, proofs/Weaving).
abbrev pub Undone : Type 0
Undone = (D long : ℕ) (frames : List ℕ) → 1 ≤ D → length frames ≡ D * long → unwoven D (woven D frames) ≡ frames

abbrev pub Rewoven : Type 0
Rewoven = (D long : ℕ) (area : List ℕ) → 1 ≤ D → length area ≡ D * long → woven D (unwoven D area) ≡ area

-- What a call that moves the incoming symbols to `laid` answers and leaves in the out area: the first "no", and the area unchanged; or what was laid, and past
-- the incoming length what the area held.
pub record Laid (number D : ℕ) (incoming laid before : List ℕ) (r : Answer) (after : List ℕ) : Type 0 where
  pub answered : r ≡ first_no (weaving_questions number D incoming (length before))
  pub area : after ≡ pick (eqb r.number 0) (laid ++ drop (length incoming) before) before

-- The same of the calls: what a call laid by `lay`, given to one that lays by `back` with room enough, gets number 0 and comes back as it was
-- (`weaving_undone`, `unweaving_undone`, proofs/Undoing).
abbrev pub CallUndone : (ℕ → List ℕ → List ℕ) → (ℕ → List ℕ → List ℕ) → Type 0
CallUndone lay back = (number D : ℕ) (incoming before after lent returned : List ℕ) (r s : Answer)
    → Laid number D incoming (lay D incoming) before r after → r.number ≡ 0 → length incoming ≤ length lent
    → Laid number D (take (length incoming) after) (back D (take (length incoming) after)) lent s returned
    → (s ≡ answer 0 0) × (returned ≡ incoming ++ drop (length incoming) lent)

-- Examples, computed: three frames of two symbols; two of three.
pub woven_samples : woven 3 (1 ∷ 2 ∷ 3 ∷ 4 ∷ 5 ∷ 6 ∷ [])
    ∷ unwoven 3 (1 ∷ 3 ∷ 5 ∷ 2 ∷ 4 ∷ 6 ∷ [])
    ∷ woven 2 (1 ∷ 2 ∷ 3 ∷ 4 ∷ 5 ∷ 6 ∷ [])
    ∷ []
    ≡ (1 ∷ 3 ∷ 5 ∷ 2 ∷ 4 ∷ 6 ∷ []) ∷ (1 ∷ 2 ∷ 3 ∷ 4 ∷ 5 ∷ 6 ∷ []) ∷ (1 ∷ 4 ∷ 2 ∷ 5 ∷ 3 ∷ 6 ∷ []) ∷ []
unfolding transposed tabulate
woven_samples = refl
