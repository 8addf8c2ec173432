-- `link::decode::read_frame`: the frame is read; then its residual is counted, or zeros.
use mathlib.Core.Path.{refl, sym, ap, ◌∙◌}
use Prim.Native.Nat.{ℕ, ◌*◌}
use native.Mathlib.Omega.{arith}
use mathlib.Core.Bool.{not, ◌&&◌}
use lib.Dec.{eqb}
use lib.ListN.{length, replicate}
use Rattle.algebra.proofs.Weights.{count_of_le}
use Rattle.field.specs.Symbols.{is_unknown}
use Rattle.field.specs.parts.Sequences.{at}
use Rattle.code.specs.declared.Setting.{Setting}
use Rattle.code.specs.parts.Residual.{frame_length}
use Rattle.code.specs.Windows.{unknown_symbols}
use Rattle.code.proofs.Cost.{all_known}
use Rattle.link.proofs.Decoding.{answered_none, answered_read}
use Rattle.link.proofs.decode.read_frame.Goals as goal

pub read-requires : goal.read-requires
read-requires c =
    let a = c.args in
    let p : Setting = a.frame.now.tables.now.setting in (
      c.requires.1,
      c.requires.2,
      λ none. record {
        below = all_known p.q (length a.transmission.now) (at a.transmission.now)
            (ap (λ (t : ℕ). unknown_symbols p.q t (at a.transmission.now)) c.requires.2 ∙ sym c.requires.3 ∙ none);
      },
    )

pub returns-then-is_none : goal.returns-then-is_none
returns-then-is_none c =
    answered_none c.read.ensures c.if-is_none.ensures refl
    (c.fill.ensures.after (λ y e. e) ∙ ap (λ (t : ℕ). replicate t 0) (c.read.auto.message ∙ c.requires.1))
    (c.fill-then-is_none.ensures.after (λ y e. e) ∙ ap (λ (t : ℕ). replicate t 0) (c.read.auto.residual ∙ c.requires.2))

pub overflow_cast-result : goal.overflow_cast-result
overflow_cast-result c =
    let a = c.args in
    let p : Setting = a.frame.now.tables.now.setting in
    let count = a.frame.now.blocks * p.n in
    omega (
      arith,
      c.altered_count-altered.ensures,
      count_of_le count (λ i. not (is_unknown p.q (at c.read.new.residual i)) && not (eqb (at c.read.new.residual i) 0)),
      c.requires.0,
      c.requires.2,
    )

pub overflow_cast-result-2 : goal.overflow_cast-result-2
overflow_cast-result-2 c =
    let a = c.args in
    let p : Setting = a.frame.now.tables.now.setting in
    omega (
      arith,
      c.requires.3,
      count_of_le (frame_length p a.frame.now.blocks) (λ i. is_unknown p.q (at a.transmission.now i)),
      c.requires.0,
      c.requires.2,
    )

pub returns : goal.returns
returns c = answered_read c.read.ensures c.if-is_none.ensures c.altered_count-altered.ensures c.requires.3
