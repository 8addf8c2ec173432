-- `line::characters::all_right_in_frame`: the fold stays true while characters are right.
use mathlib.Core.Path.{◌≡◌, refl, sym, ◌∙◌}
use mathlib.Core.Bool.{Bool, true, false, ◌&&◌}
use mathlib.Core.List.{List, [], ◌∷◌}
use Prim.Native.Nat.{ℕ}
use Rattle.std.specs.List.{fold, AllPass}
use Rattle.std.proofs.Common.{rules}
use Rattle.std.proofs.lemmas.Iterator.{YieldsList-from_slice}
use Rattle.std.proofs.lemmas.Iterator.Consumers.{fold_from_yields_List}
use Rattle.std.proofs.lemmas.List.Elements.{All-nil, All-cons}
use Rattle.algebra.proofs.Tests.{false_not_true}
use Rattle.line.specs.Questions.{is_digit_or_mark}
use Rattle.line.proofs.characters.all_right_in_frame.Goals as goal

abbrev still_right : Bool → ℕ → Bool
still_right right character = right && is_digit_or_mark character

all_right : (l : List ℕ) (right : Bool) → fold still_right right l ≡ true → (right ≡ true) × AllPass is_digit_or_mark l
all_right [] right e = (e, All-nil (λ c. is_digit_or_mark c ≡ true))
all_right (c ∷ l) right e =
    let rest = all_right l (still_right right c) e in
    let both = parts right (is_digit_or_mark c) rest.0 in
    (both.0, All-cons (λ x. is_digit_or_mark x ≡ true) c l both.1 rest.1)
  where
    parts : (a b : Bool) → (a && b) ≡ true → (a ≡ true) × (b ≡ true)
    parts true b e = (refl, e)
    parts false b e = absurd (false_not_true e)

pub returns : goal.returns
returns c =
    λ e. (all_right c.args.frame.now true
    (sym (fold_from_yields_List _ still_right true c.fold.result c.fold.ensures.ran (YieldsList-from_slice c.args.frame.now cc) (λ a x b q k. search rules)) ∙ e)).1
