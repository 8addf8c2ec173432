-- The lines of small inputs, computed: an empty line counts, an input may be empty, and its last line may lack a newline; a line may come in two texts, and
-- what is begun of it is kept. Holds: `three_lines` to `kept_nothing`.
use Rattle.std.specs.Prelude.{◌≡◌, refl, [], ◌∷◌}
use Rattle.desk.specs.Texts.{lines_of, rest_of, last_of, all_lines}
use Rattle.desk.specs.Turns.{kept_line, Kept}

-- "a", newline, newline, "bc"
pub three_lines : all_lines (97 ∷ 10 ∷ 10 ∷ 98 ∷ 99 ∷ []) ≡ (97 ∷ []) ∷ [] ∷ (98 ∷ 99 ∷ []) ∷ []
unfolding lines_of rest_of last_of
three_lines = refl

-- The same with a newline at its end.
pub three_ended : all_lines (97 ∷ 10 ∷ 10 ∷ 98 ∷ 99 ∷ 10 ∷ []) ≡ (97 ∷ []) ∷ [] ∷ (98 ∷ 99 ∷ []) ∷ []
unfolding lines_of rest_of last_of
three_ended = refl

pub no_line : all_lines [] ≡ []
unfolding lines_of rest_of last_of
no_line = refl

pub empty_line : all_lines (10 ∷ []) ≡ [] ∷ []
unfolding lines_of rest_of last_of
empty_line = refl

-- "a" came before "b", newline, "c".
pub line_in_two : lines_of (97 ∷ []) (98 ∷ 10 ∷ 99 ∷ []) ≡ (97 ∷ 98 ∷ []) ∷ []
unfolding lines_of
line_in_two = refl

pub line_begun : rest_of (97 ∷ []) (98 ∷ 10 ∷ 99 ∷ []) ≡ 99 ∷ []
unfolding rest_of
line_begun = refl

-- Of "ab" three characters keep all, of "abc" two keep as much, and of nothing nothing.
pub kept_two : Kept (97 ∷ 98 ∷ []) (kept_line 3 (97 ∷ 98 ∷ []))
kept_two = refl

pub kept_cut : Kept (97 ∷ 98 ∷ 99 ∷ []) (kept_line 2 (97 ∷ 98 ∷ []))
kept_cut = refl

pub kept_nothing : Kept [] (kept_line 2 [])
kept_nothing = refl
