-- `frame::Frame::settle`: what window j says of block j.
use mathlib.Core.Path.{sym, ap, ◌∙◌}
use native.Mathlib.Omega.{arith}
use lib.ListN.{length}
use borrow.Author.Tests.{ltb-true}
use Rattle.code.proofs.FrameWindows.{length_window_at}
use Rattle.frame.proofs.Guesses.{window_room}
use Rattle.code.specs.parts.Cost.{zero_cost}
use Rattle.frame.proofs.Advance.{search_some, search_few, search_below, advance_clean, advance_none, advance_found}
use Rattle.frame.proofs.Frame.settle.Goals as goal

pub returns-then-is_light : goal.returns-then-is_light
returns-then-is_light c =
    let a = c.args in
    let t = a.self.now.tables.now in
    let p = t.setting in
    let room = window_room p a.self.now.blocks a.self.now.unknown a.j a.message.now a.residual.now c.requires.2 c.requires.1 in
    let long = ap length c.window.ensures ∙ length_window_at p a.residual.now a.j room in
    let light = ltb-true (zero_cost p.q c.window.result.now) a.bound (sym c.is_light.ensures ∙ c.if-is_light.true) in
    record { advances = λ reception P. advance_clean t.ready.sound P c.requires.1 c.window.ensures long (omega (arith, light, c.requires.0)) }

pub returns-in_err-found : goal.returns-in_err-found
returns-in_err-found c =
    rw c.from_residual.ensures
    (record { advances = λ reception P. advance_none c.args.self.now.tables.now.ready.sound P c.requires.1 c.window.ensures c.in_err-found.ensures })

pub add_found-requires : goal.add_found-requires
add_found-requires c =
    let below = search_below c.in_ok-found.ensures in
    (record { below = λ i l. below i }, search_few c.in_ok-found.ensures, c.requires.1, c.requires.2)

pub overflow_sub-result : goal.overflow_sub-result
overflow_sub-result c = search_some c.in_ok-found.ensures

pub returns : goal.returns
returns c =
    record {
      advances = λ reception P. advance_found c.args.self.now.tables.now.ready.sound P c.requires.1 c.window.ensures c.in_ok-found.ensures c.add_found.ensures;
    }
