-- `link::encode::Sending::send_block`: the symbols of block i before symbol r were sent.
use Prim.Native.Nat.{◌+◌, ◌*◌}
use Rattle.link.specs.parts.Sending.{SentTo}
use Rattle.link.proofs.encode.Sending.send_block.Given as goal

abbrev pub invariant-loop-r : goal.invariant-loop-r
invariant-loop-r l = SentTo l.self.tables.now.setting l.self.blocks l.self.message.now (l.i * l.self.tables.now.setting.k + l.r) l.area
