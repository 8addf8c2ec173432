-- `display::mark::marks`: the marks of the window and how many are set.
use Rattle.display.proofs.Display.{marked_found}
use Rattle.display.proofs.mark.marks.Goals as goal

pub returns : goal.returns
returns c =
    let found = c.in_ok-shape.ensures in
    marked_found c.args.j found.shape found.answer (c.window_part-received.ensures.window, c.window_part-received.ensures.long) c.window_part-sent.ensures.window c.mark_bits-marks.ensures
