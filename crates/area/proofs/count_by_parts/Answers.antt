-- `area::count_by_parts`: the parts' counts add up to that of the bytes.
use Rattle.std.proofs.Common.{rules, leb, ◌∙◌, arith}
use Rattle.std.proofs.lemmas.Iterator.{YieldsList-from_map}
use Rattle.std.proofs.lemmas.Iterator.Consumers.{YieldsList-at, sum_from_yields_List, fits_from_yields_list}
use Rattle.area.specs.parts.Weights.{count_from}
use Rattle.area.proofs.Weights.{count_from_le, chunks_give, parts_counted}
use Rattle.area.proofs.count_by_parts.Goals as goal

pub sum-requires-clause-fits : goal.sum-requires-clause-fits
sum-requires-clause-fits c =
    let bytes = c.args.bytes.now in
    let least = c.args.least in
    let given = YieldsList-at c.map.ensures.source (chunks_give 255 bytes (omega arith) c.chunks.ensures.rest c.chunks.ensures.size) in
    fits_from_yields_list _ _ (YieldsList-from_map _ (count_from least) given c.map.ensures.closure (λ x r q k. search rules))
    (omega (arith, parts_counted (leb least) 255 bytes (omega arith), count_from_le least bytes))

pub returns : goal.returns
returns c =
    let bytes = c.args.bytes.now in
    let least = c.args.least in
    let given = YieldsList-at c.map.ensures.source (chunks_give 255 bytes (omega arith) c.chunks.ensures.rest c.chunks.ensures.size) in
    sum_from_yields_List _ _ c.sum.ensures.ran (YieldsList-from_map _ (count_from least) given c.map.ensures.closure (λ x r q k. search rules))
    ∙ parts_counted (leb least) 255 bytes (omega arith)
