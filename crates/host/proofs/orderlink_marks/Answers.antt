-- `host::orderlink_marks`: the promise of `display::mark::marks`.
use Rattle.host.proofs.orderlink_marks.Goals as goal

pub returns : goal.returns
returns c = rw c.from.ensures c.marks.ensures
