-- `display::mark::mark_bits`: from the last place down, each mark is set below those of the later places.
use mathlib.Core.Path.{◌≡◌, ◌∙◌}
use mathlib.Core.List.{reverse}
use Rattle.std.proofs.Common.{rules, tests}
use Rattle.std.specs.List.{fold, zip}
use Rattle.std.proofs.lemmas.Iterator.{YieldsList-from_zip}
use Rattle.std.proofs.lemmas.Iterator.Adapters.{YieldsList-from_rev_slice}
use Rattle.std.proofs.lemmas.Iterator.Consumers.{fold_from_yields_List}
use Rattle.display.proofs.Bits.{bit_more, folded_bits}
use Rattle.display.proofs.mark.mark_bits.Goals as goal

pub returns : goal.returns
returns c =
    let a = c.args.received.now in
    let b = c.args.sent.now in
    let folded : c.fold.result ≡ fold bit_more 0 (zip (reverse a) (reverse b)) =
    fold_from_yields_List _ bit_more 0 c.fold.result c.fold.ensures.ran
    (YieldsList-from_zip (YieldsList-from_rev_slice a cc) (YieldsList-from_rev_slice b cc)) (λ n x r q k. search (rules, tests)) in
    folded ∙ folded_bits a b c.requires.same c.requires.short
