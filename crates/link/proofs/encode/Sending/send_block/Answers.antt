-- `link::encode::Sending::send_block`: the symbols of block i before symbol r were sent.
use mathlib.Core.Path.{◌≡◌, refl, sym, ap, subst, ◌∙◌}
use mathlib.Core.List.{List}
use Prim.Native.Nat.{ℕ, ◌+◌, ◌*◌, ◌≤◌, ◌<◌}
use native.Mathlib.Omega.{arith}
use lib.ListN.{length, get_or}
use Rattle.area.specs.Lists.{part_at}
use Rattle.area.proofs.Parts.{part_length, part_at_symbol}
use Rattle.field.proofs.Symbols.{symbols_part}
use Rattle.code.specs.declared.Setting.{Setting}
use Rattle.code.specs.Windows.{window_length}
use Rattle.code.proofs.CodeBelow.{message_below}
use Rattle.frame.proofs.Guesses.{window_room}
use Rattle.link.specs.parts.Sending.{SentTo}
use Rattle.link.proofs.Sending.{sent_more}
use Rattle.link.proofs.encode.Sending.send_block.Goals as goal

-- Window i lies within the area.
window_in : {p : Setting} {T i count : ℕ} {message area : List ℕ} → i < T → SentTo p T message count area → i * p.n + window_length p ≤ length area
window_in {p} {T} {i} {area = area} l sent = window_room p T 0 i sent.rest area sent.areas l

-- A symbol of block i.
symbol_in : (k i r : ℕ) (message : List ℕ) {block : List ℕ} → block ≡ part_at k i message → r < k → get_or block r 0 ≡ get_or message (i * k + r) 0
symbol_in k i r message e l = ap (λ (t : List ℕ). get_or t r 0) e ∙ part_at_symbol k i message r l

pub add_rows-requires : goal.add_rows-requires
add_rows-requires c =
    let self = c.args.self.now in
    let i = c.args.i in
    let l = c.loop-r in
    let p : Setting = self.tables.now.setting in
    let below : l.r < p.k = omega (arith, c.part-block.ensures.long) in
    rw c.window_length.ensures (
      below,
      subst (λ (t : ℕ). t < p.q) (sym (symbol_in p.k i l.r self.message.now c.part-block.ensures.part below))
          (message_below p self.tables.now.ready.sound self.blocks self.message.now self.fits i l.r),
      part_length (window_length p) (i * p.n) l.area (window_in c.requires.0 l.invariant),
      symbols_part p.q (i * p.n) (i * p.n + window_length p) l.area (l.invariant.areas.residual_symbols refl),
    )

pub loop-r-preserved : goal.loop-r-preserved
loop-r-preserved c =
    let self = c.args.self.now in
    let i = c.args.i in
    let l = c.loop-r in
    let p : Setting = self.tables.now.setting in
    let below : l.r < p.k = omega (arith, c.part-block.ensures.long) in
    rw c.window_length.ensures
    (sent_more p self.tables.now.ready.sound self.blocks self.message.now self.fits i l.r _ l.area c.add_rows.new.window c.requires.0
    below (symbol_in p.k i l.r self.message.now c.part-block.ensures.part below) l.invariant (rw c.window_length.ensures at c.add_rows.ensures))
