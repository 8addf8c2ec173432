-- `code::distances_to`: the sum of the distances up to level l.
use mathlib.Core.Path.{◌∙◌}
use Prim.Native.Nat.{◌+◌}
use native.Mathlib.Omega.{arith}
use Rattle.std.proofs.Common.{rules}
use Rattle.std.proofs.lemmas.Iterator.{YieldsList-from_map, YieldsList-from_range}
use Rattle.std.proofs.lemmas.Iterator.Consumers.{sum_from_yields_List, fits_from_yields_list}
use Rattle.code.specs.Code.{level_distance}
use Rattle.code.proofs.Settings.{sizes}
use Rattle.code.proofs.Distances.{distances_sum, distances_small}
use Rattle.code.proofs.distances_to.Goals as goal

pub sum-requires-clause-fits : goal.sum-requires-clause-fits
sum-requires-clause-fits c =
    let p = c.args.p in
    let l = c.args.l in
    let most = sizes p c.requires.0 in
    fits_from_yields_list c.map.result _
    (YieldsList-from_map _ (level_distance p.n p.k) (YieldsList-from_range 0 (l + 1) (l + 1) (cc) (omega arith)) c.map.ensures.closure
    (λ x r q k. search rules))
    (omega (arith, distances_sum p.n p.k l, distances_small p.n p.k l most.symbols_most, most.memory_most, c.requires.1))

pub returns : goal.returns
returns c =
    let p = c.args.p in
    let l = c.args.l in
    sum_from_yields_List _ _ c.sum.ensures.ran
    (YieldsList-from_map _ (level_distance p.n p.k) (YieldsList-from_range 0 (l + 1) (l + 1) (cc) (omega arith)) c.map.ensures.closure
    (λ x r q k. search rules))
    ∙ distances_sum p.n p.k l
