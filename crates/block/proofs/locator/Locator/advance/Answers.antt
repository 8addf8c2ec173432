-- `block::locator::Locator::advance` meets its contract: the locator is kept, corrected, or corrected and lengthened.
use mathlib.Core.Path.{sym}
use native.Mathlib.Numerals.{add-one}
use native.Mathlib.Omega.{arith}
use Rattle.block.proofs.LocatorPair.{pair_kept, pair_corrected, pair_lengthened}
use Rattle.block.proofs.locator.Locator.advance.Goals as goal

pub returns-then-discrepancy-eq0 : goal.returns-then-discrepancy-eq0
returns-then-discrepancy-eq0 c =
    let p = c.requires in
    pair_kept _ c.args.field.now.good (sym (add-one c.args.known)) p.0 p.2 c.tail-rest.ensures c.add-discrepancy.ensures c.if-discrepancy-eq0.true

pub returns-then-next-degree : goal.returns-then-next-degree
returns-then-next-degree c =
    let p = c.requires in
    pair_corrected _ c.args.field.now.good (sym (add-one c.args.known)) p.0 p.2 c.tail-rest.ensures c.add-discrepancy.ensures
    c.multiply-factor.ensures c.subtract_multiple.ensures (omega (arith, c.if-next-degree.true))

pub returns : goal.returns
returns c =
    let p = c.requires in
    pair_lengthened _ c.args.field.now.good (sym (add-one c.args.known)) p.0 p.2 c.tail-rest.ensures c.add-discrepancy.ensures
    c.multiply-factor.ensures c.subtract_multiple.ensures (omega (arith, c.if-next-degree.false)) c.if-discrepancy-eq0.false c.inverse-self.ensures
