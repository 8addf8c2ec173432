-- `link::encode::Sending::send`: the blocks before block i were sent.
use Prim.Native.Nat.{◌*◌}
use Rattle.link.specs.parts.Sending.{SentTo}
use Rattle.link.proofs.encode.Sending.send.Given as goal

abbrev pub invariant-loop-i : goal.invariant-loop-i
invariant-loop-i l = SentTo l.self.tables.now.setting l.self.blocks l.self.message.now (l.i * l.self.tables.now.setting.k) l.area
