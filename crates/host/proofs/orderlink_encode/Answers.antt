-- `host::orderlink_encode`: the promise of `link::encode::encode`.
use mathlib.Core.Path.{◌≡◌}
use Rattle.std.proofs.Common.{rules}
use Rattle.question.specs.Refusals.{asked}
use Rattle.host.proofs.orderlink_encode.Goals as goal

pub returns : goal.returns
returns c =
    let e : c.from.result ≡ asked c.encode.result = search rules in
    rw e c.encode.ensures
