-- `block::unknown::times_factors`: the series has the factors of the unknown places before the index, and the point is α^index.
use Rattle.algebra.specs.Sum.{power}
use Rattle.field.specs.Fields.{ops_of, alpha}
use Rattle.field.specs.Symbols.{is_unknown}
use Rattle.field.specs.parts.Operations.{Is}
use Rattle.field.specs.parts.Sequences.{at}
use Rattle.block.specs.parts.Factors.{places_where, Factored}
use Rattle.block.proofs.unknown.times_factors.Given as goal

abbrev pub invariant-loop-received : goal.invariant-loop-received
invariant-loop-received l =
    let q = l.initial.field.q in
    Is q l.point (power (ops_of q) alpha l.received-index)
    × Factored q (places_where (λ a. is_unknown q (at l.block a)) l.received-index) l.initial.series l.series
