-- `host::orderlink_decode`: the promise of `link::decode::decode`.
use Rattle.host.proofs.orderlink_decode.Goals as goal

pub returns : goal.returns
returns c = rw c.from.ensures c.decode.ensures
