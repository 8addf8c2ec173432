-- `question::largest_byte`: the fold takes the larger of two, so no byte exceeds what it ends with.
use Prim.Native.Nat.{max}
use Rattle.std.proofs.Common.{rules}
use Rattle.std.proofs.lemmas.Iterator.{YieldsList-from_slice}
use Rattle.std.proofs.lemmas.Iterator.Consumers.{fold_from_yields_List}
use Rattle.question.proofs.Questions.{largest_symbols}
use Rattle.question.proofs.largest_byte.Goals as goal

pub returns : goal.returns
returns c =
    largest_symbols c.args.bytes.now
    (fold_from_yields_List _ max 0 c.fold.result c.fold.ensures.ran (YieldsList-from_slice c.args.bytes.now cc) (λ a x b q k. search rules))
