-- `block::unknown::times_factors`: the series has the factors of the unknown places before the index, and the point is α^index.
use native.Mathlib.Omega.{arith}
use Rattle.block.proofs.Spectra.{point_none, point_more}
use Rattle.block.proofs.Factors.{factored_none, factored_known, factored_unknown}
use Rattle.block.proofs.unknown.times_factors.Goals.{then-field-from, else-field-from}
use Rattle.block.proofs.unknown.times_factors.Goals as goal

pub loop-received-init : goal.loop-received-init
loop-received-init c = (point_none _ c.args.field.now.good, factored_none _ _ _ c.requires)

pub loop-received-preserved : goal.loop-received-preserved
loop-received-preserved c =
    let l = c.loop-received in (
      point_more _ _ _ _ l.invariant.0 c.multiply-point.ensures,
      elim c.if-field-from.branch [
        | then-field-from w ↦
            let unknown = rw c.from.ensures at w.if-field-from.true in
            rw w.series-is (factored_unknown _ _ _ l.received-index l.point (omega (arith, unknown)) l.invariant.0 l.invariant.1 w.times_factor.ensures)
        | else-field-from w ↦
            let known = rw c.from.ensures at w.if-field-from.false in
            rw w.series-is (factored_known _ _ _ l.received-index (omega (arith, known)) l.invariant.1)
      ],
    )
