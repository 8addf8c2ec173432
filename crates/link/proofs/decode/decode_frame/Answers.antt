-- `link::decode::decode_frame`: the tables are the setting's, the working areas have room for its blocks, and the frame is read where its transmission goes.
use mathlib.Core.Path.{◌≡◌, refl, sym, ap, subst, ◌∙◌}
use mathlib.Core.List.{List}
use Prim.Native.Nat.{ℕ, ◌*◌, ◌≤◌}
use lib.ListN.{length, get_or}
use Rattle.std.proofs.Common.{rules}
use Rattle.code.specs.parts.Residual.{frame_length}
use Rattle.code.specs.declared.Setting.{Setting}
use Rattle.code.specs.Windows.{transmission, unknown_symbols, unknown_in}
use Rattle.code.specs.parts.SettingNumbers.{number_of, parameters_of}
use Rattle.code.proofs.Settings.{number_known}
use Rattle.question.specs.declared.answer.Answer.{Answer}
use Rattle.question.specs.Questions.{most_symbols}
use Rattle.question.proofs.Questions.{transmission_most}
use Rattle.question.proofs.Shapes.{refusal_numbered}
use Rattle.weave.specs.parts.Columns.{symbols_of}
use Rattle.link.specs.parts.Restoring.{FrameAnswered, ReadFrom}
use Rattle.link.specs.Decoding.{FrameDecoded}
use Rattle.link.proofs.Decoding.{answered_frame, decoded_none, decoded_found}
use Rattle.link.proofs.decode.decode_frame.Goals as goal

-- What is read of a reception that was copied.
answered_copy : {p : Setting} {T : ℕ} {copy reception : List ℕ} {r : Answer} {message residual : List ℕ} → copy ≡ reception
    → FrameAnswered p T copy r message residual → FrameAnswered p T reception r message residual
answered_copy {p} {T} {copy} {reception} {r} {message} {residual} e F = subst (λ (l : List ℕ). FrameAnswered p T l r message residual) e F

-- What is decoded in the setting in hand is decoded in the one with this number.
as_setting : {p s : Setting} {T : ℕ} {reception : List ℕ} {r : Answer} {message transmission : List ℕ} → p ≡ s
    → FrameDecoded p T reception r message transmission → FrameDecoded s T reception r message transmission
as_setting {p} {s} {T} {reception} {r} {message} {transmission} e F = subst (λ (p : Setting). FrameDecoded p T reception r message transmission) e F

-- The copied reception has the frame's length, and its unknown symbols are those of its T + m blocks.
unknown_of : (p : Setting) (T : ℕ) (reception : List ℕ) {unknown : ℕ} → unknown ≡ unknown_symbols p.q (length reception) (λ i. get_or reception i 0)
    → length reception ≡ frame_length p T → unknown ≡ unknown_in p T reception
unknown_of p T reception lost long = lost ∙ ap (λ (t : ℕ). unknown_symbols p.q t (λ i. get_or reception i 0)) long

pub read_frame-requires : goal.read_frame-requires
read_frame-requires c =
    let s = c.args.shape in
    let p : Setting = c.new-tables.result.setting in
    let e : p ≡ parameters_of s.setting = c.new-tables.ensures in
    let copy = c.take.new.out in
    let long : length copy ≡ frame_length p s.blocks = c.take.auto.out ∙ (c.requires.2 ∙ ap (λ (p : Setting). frame_length p s.blocks) (sym e)) in (
      subst (λ (t : ℕ). t ≤ most_symbols) (sym (c.take.auto.out ∙ c.requires.2)) (transmission_most (number_of s.setting) s.blocks (number_known s.setting) s.few),
      c.requires.1 ∙ ap (λ (p : Setting). s.blocks * p.k) (sym e),
      long,
      unknown_of p s.blocks copy c.unknown_symbols.ensures long,
    )

pub returns-in_err-counts : goal.returns-in_err-counts
returns-in_err-counts c =
    let F =
    as_setting c.new-tables.ensures
    (decoded_none (answered_copy c.take.ensures c.in_err-counts.ensures) (refusal_numbered c.in_err-counts.field-0.0)) in
    search rules

pub transmit-requires : goal.transmit-requires
transmit-requires c =
    let s = c.args.shape in
    let t = c.new-tables.result in
    let e = c.new-tables.ensures in
    let copy = c.take.new.out in
    let long : length copy ≡ frame_length t.setting s.blocks = c.take.auto.out ∙ (c.requires.2 ∙ ap (λ (p : Setting). frame_length p s.blocks) (sym e)) in
    let message = c.read_frame.new.message in
    let left = c.read_frame.new.transmission in (
      e,
      c.read_frame.auto.transmission ∙ (c.take.auto.out ∙ c.requires.0),
      subst (λ (p : Setting). ReadFrom p s.blocks c.unknown_symbols.result (symbols_of c.args.reception.now) message left) e
          (subst (λ (l : List ℕ). ReadFrom t.setting s.blocks c.unknown_symbols.result l message left) c.take.ensures
          (record { long = long; lost = unknown_of t.setting s.blocks copy c.unknown_symbols.ensures long; read = answered_frame c.in_ok-counts.ensures refl })),
    )

pub returns : goal.returns
returns c =
    let e = c.new-tables.ensures in
    as_setting e
    (decoded_found c.new-tables.result.ready.sound (answered_copy c.take.ensures c.in_ok-counts.ensures) refl
    (c.transmit.ensures ∙ ap (λ (p : Setting). transmission p c.read_frame.new.message) (sym e)))
