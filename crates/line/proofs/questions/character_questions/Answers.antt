-- `line::questions::character_questions` asks 11, then 9: of the head, then of the frame.
use mathlib.Core.Path.{◌≡◌, ap, ◌∙◌}
use mathlib.Core.List.{List}
use Prim.Native.Nat.{ℕ, ◌+◌, ◌<◌}
use native.Mathlib.Omega.{arith}
use lib.ListN.{length, take}
use Rattle.std.specs.Prelude.{MatchOption}
use Rattle.std.specs.List.{AllPass}
use Rattle.std.proofs.lemmas.Option.{MatchOption-at_some, MatchOption-at_none}
use Rattle.question.specs.Questions.{answer, passing_to}
use Rattle.line.specs.Heads.{form_in, head_length}
use Rattle.line.specs.Questions.{is_digit}
use Rattle.line.proofs.Asked.{head_found, frame_found, head_wrong, head_short, frame_wrong, all_right}
use Rattle.line.proofs.questions.character_questions.Goals as goal
use Rattle.line.proofs.questions.character_questions.Goals.{After-first_wrong_in_head, Else-head-length}

-- How many characters the line's head has, and the head.
abbrev long : List ℕ → ℕ
long line = head_length (form_in line)

abbrev head : List ℕ → List ℕ
head line = take (long line) line

-- The first wrong character of the head, if there is one.
found : (c : After-first_wrong_in_head) → MatchOption c.first_wrong_in_head.result (AllPass is_digit (head c.args.line.now))
    (λ place. (place ≡ passing_to is_digit (head c.args.line.now)) × (place < length (head c.args.line.now)))
found c = head_found (long c.args.line.now) c.args.line.now (omega (arith, ap head_length c.form_in-form.ensures)) c.first_wrong_in_head.ensures

-- The head is not short.
whole : (c : Else-head-length) → c.min-head.result ≡ long c.args.line.now
whole c = omega (arith, ap head_length c.form_in-form.ensures)

pub returns-in-Some-clause-answer : goal.returns-in-Some-clause-answer
returns-in-Some-clause-answer c =
    let line = c.args.line.now in
    let first = MatchOption-at_some _ _ _ c.in-Some.is (found (goal.at.returns-in-Some-clause-answer c).After-first_wrong_in_head) in
    head_wrong (long line) line c.if-line-gt-MOST_CHARACTERS.false first.0 first.1

pub returns-then-head-length-clause-answer : goal.returns-then-head-length-clause-answer
returns-then-head-length-clause-answer c =
    let line = c.args.line.now in
    let all = MatchOption-at_none _ _ c.in_default.is (found (goal.at.returns-then-head-length-clause-answer c).After-first_wrong_in_head) in
    head_short (long line) line c.if-line-gt-MOST_CHARACTERS.false (omega arith) all (omega (arith, ap head_length c.form_in-form.ensures))

pub returns-in-Some-first_wrong_in_frame-clause-answer : goal.returns-in-Some-first_wrong_in_frame-clause-answer
returns-in-Some-first_wrong_in_frame-clause-answer c =
    let line = c.args.line.now in
    let at = goal.at.returns-in-Some-first_wrong_in_frame-clause-answer c in
    let all = MatchOption-at_none _ _ c.in_default.is (found at.After-first_wrong_in_head) in
    let here = whole at.Else-head-length in
    let first = MatchOption-at_some _ _ _ c.in-Some-first_wrong_in_frame.is (frame_found (long line) line here c.first_wrong_in_frame.ensures) in
    ap (λ (t : ℕ). answer 9 (t + c.in-Some-first_wrong_in_frame.place)) here
    ∙ frame_wrong (long line) line c.if-line-gt-MOST_CHARACTERS.false all (omega (arith, here)) first.0 first.1

pub returns-clause-answer : goal.returns-clause-answer
returns-clause-answer c =
    let line = c.args.line.now in
    let at = goal.at.returns-clause-answer c in
    let all = MatchOption-at_none _ _ c.in_default.is (found at.After-first_wrong_in_head) in
    let here = whole at.Else-head-length in
    let rest = MatchOption-at_none _ _ c.in_default-first_wrong_in_frame.is (frame_found (long line) line here c.first_wrong_in_frame.ensures) in
    all_right (long line) line c.if-line-gt-MOST_CHARACTERS.false all (omega (arith, here)) rest
