-- `display::window_part`: window j lies within the frame.
use Rattle.display.proofs.Display.{part_inside}
use Rattle.display.proofs.window_part.Goals as goal

pub window_of_frame-requires : goal.window_of_frame-requires
window_of_frame-requires c = rw c.parameters-p.ensures (part_inside c.args.shape c.args.frame.now c.requires.inside c.requires.long)
