-- `block::spectrum::Spectrum::add_values` meets its contract. The loop's invariant: s values stand in the series, and the point is α^s.
use native.Mathlib.Omega.{arith}
use lib.ListN.{length-set}
use Rattle.block.proofs.Spectra.{point_more, spectrum_more}
use Rattle.block.proofs.spectrum.Spectrum.add_values.Goals as goal

pub loop-s-preserved : goal.loop-s-preserved
loop-s-preserved c =
    let l = c.loop-s in (
      point_more _ _ _ _ l.invariant.0 c.multiply-self.ensures,
      spectrum_more _ _ _ _ _ _ l.invariant.1 (omega (arith, c.requires.2, l.invariant.2)) l.invariant.0 c.value.ensures,
      simp length-set l.invariant.2,
    )
