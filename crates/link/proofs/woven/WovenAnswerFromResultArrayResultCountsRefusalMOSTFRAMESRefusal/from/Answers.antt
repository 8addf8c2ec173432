-- `WovenAnswer::from` of a call's outcome: where its questions got "yes", the answers that the frames' outcomes stand for.
use mathlib.Core.Path.{◌≡◌, sym, ap, ◌∙◌}
use mathlib.Core.List.{map}
use native.Mathlib.Omega.{arith}
use lib.ListN.{length, get_or, get_or-map}
use lib.Seq.{ext_get_or}
use Rattle.std.proofs.lemmas.List.{length-map}
use Rattle.std.proofs.Common.{rules, Result, Ok}
use Rattle.question.specs.declared.answer.Counts.{Counts}
use Rattle.question.specs.declared.refusal.Refusal.{Refusal}
use Rattle.question.specs.Questions.{answer}
use Rattle.question.specs.Refusals.{answered}
use Rattle.link.specs.Woven.{woven_answer}
use Rattle.link.proofs.woven.WovenAnswerFromResultArrayResultCountsRefusalMOSTFRAMESRefusal.from.Goals as goal

pub returns-in-Ok : goal.returns-in-Ok
returns-in-Ok c =
    let none : Result Counts Refusal = Ok (record { altered = 0; unknown = 0 }) in
    let outcomes = c.in-Ok.frames in
    let items = c.map.ensures.items in
    let all : length c.map.result ≡ length (map answered outcomes) = omega (arith, items.long, length-map outcomes answered) in
    let frame : c.map.result ≡ map answered outcomes =
    ext_get_or (answer 0 0) c.map.result (map answered outcomes) all
    (λ f l.
    let called = items.at f none (answer 0 0) (omega (arith, l, items.long)) in
    let one : get_or c.map.result f (answer 0 0) ≡ answered (get_or outcomes f none) = search rules in
    one ∙ sym (get_or-map answered outcomes f none)) in
    rw (c.from.ensures, frame) (ap woven_answer (sym c.in-Ok.is))
