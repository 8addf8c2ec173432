-- `question::reception_question`: all bytes are symbols, or the first that is none is looked for.
use Rattle.std.proofs.Common.{rules}
use Rattle.std.proofs.lemmas.Iterator.{YieldsList-from_slice}
use Rattle.std.proofs.lemmas.Iterator.Search.{position_from_yields_List}
use Rattle.std.specs.Prelude.{not}
use Rattle.question.specs.Questions.{is_received}
use Rattle.question.proofs.Questions.{four_asked, symbols_received}
use Rattle.question.proofs.reception_question.Goals as goal

pub returns-then-all_symbols : goal.returns-then-all_symbols
returns-then-all_symbols c = four_asked _ _ (symbols_received (c.all_symbols.ensures c.if-all_symbols.true))

pub returns : goal.returns
returns c =
    c.all_admitted.ensures (is_received c.args.q) c.args.reception.now
    (position_from_yields_List (λ b. not (is_received c.args.q b)) _ _ _ c.position.ensures.ran (YieldsList-from_slice c.args.reception.now cc)
    (λ x b q k. search rules))
