-- `question::all_admitted`: no byte is refused, or the first that is stands in this place.
use Rattle.std.proofs.lemmas.Option.{MatchOption-at_some, MatchOption-at_none}
use Rattle.question.proofs.Questions.{position_found, four_asked, four_refused}
use Rattle.question.proofs.all_admitted.Goals as goal

pub returns-in-Some : goal.returns-in-Some
returns-in-Some c = λ admits bytes e.
    let first = MatchOption-at_some _ _ _ c.in-Some.is (position_found admits bytes e) in four_refused admits bytes first.0 first.1

pub returns-in-None : goal.returns-in-None
returns-in-None c = λ admits bytes e. four_asked admits bytes (MatchOption-at_none _ _ c.in-None.is (position_found admits bytes e))
