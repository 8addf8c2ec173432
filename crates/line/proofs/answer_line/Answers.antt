-- `line::answer_line`: a line that holds no frame, no room for its frame, or what decoding the frame says.
use mathlib.Core.Path.{◌≡◌, refl, sym, ap₂, subst, ◌∙◌}
use mathlib.Core.List.{List}
use Prim.Native.Nat.{ℕ, ◌≤◌}
use native.Mathlib.Omega.{arith}
use lib.ListN.{length, take, length-take}
use Rattle.std.specs.Prelude.{Err}
use Rattle.field.specs.Symbols.{Symbols}
use Rattle.question.specs.Refusals.{answered}
use Rattle.question.proofs.Shapes.{refusal_numbered}
use Rattle.line.specs.Heads.{Head, head_in}
use Rattle.line.specs.Answering.{Answers, success, Shown, message_length, message_in, decoded}
use Rattle.line.proofs.Frames.{refusal_line, shape_message, shape_most, frame_said}
use Rattle.line.proofs.answer_line.Goals as goal
use Rattle.line.proofs.answer_line.Goals.{After-message_length}

-- The frame was decoded, and its message is that of the line.
message_long : (c : After-message_length) → c.message_length.result ≡ message_length c.args.line.now
message_long c = c.message_length.ensures ∙ shape_message c.in-Ok.ensures.shape

message_said : (c : After-message_length)
    → Answers c.args.line.now
    (success c.in-Ok-decode_line.counts.altered (head_in c.args.line.now) (message_in c.args.line.now c.decode_line.new.message))
    × (message_length c.args.line.now ≤ length c.decode_line.new.message)
    × (◌≡◌ {A = ℕ} 0 0 → Symbols 16 (message_in c.args.line.now c.decode_line.new.message))
message_said c =
    let frame = c.in-Ok.ensures.shape in
    let room = sym (c.has_room.ensures c.args.line.now frame) ∙ c.if-not-has_room.false in
    frame_said frame.holds room c.in-Ok-decode_line.ensures c.decode_line.auto.message

pub returns-in-Err-decode_line : goal.returns-in-Err-decode_line
returns-in-Err-decode_line c =
    let line = c.args.line.now in
    let frame = c.in-Ok.ensures.shape in
    let room = sym (c.has_room.ensures line frame) ∙ c.if-not-has_room.false in
    let found = frame_said frame.holds room c.in-Err-decode_line.ensures c.decode_line.auto.message in
    let refusal = c.in-Err-decode_line.refusal in
    decoded frame.holds room _ c.in-Err-decode_line.ensures
    (record {
      text = _;
      answers = subst (Answers line) (refusal_line line (answered (Err refusal)) _ (refusal_numbered refusal)) found.0;
      shown = c.write_refusal-in-Err-decode_line.ensures;
    })

pub slice_bounds-write_success-end : goal.slice_bounds-write_success-end
slice_bounds-write_success-end c = omega (arith, message_long c, (message_said c).1)

pub slice_bounds-write_success-end-in-Ok-decode_line : goal.slice_bounds-write_success-end-in-Ok-decode_line
slice_bounds-write_success-end-in-Ok-decode_line c =
    omega (arith, message_long c, (message_said c).1, length-take c.message_length.result c.decode_line.new.message)

pub write_success-requires : goal.write_success-requires
write_success-requires c =
    let found = (goal.at.write_success-requires c).After-message_length in
    let message = c.decode_line.new.message in (
      subst (λ (t : ℕ). Symbols 16 (take t message)) (sym (message_long found)) ((message_said found).2 refl),
      omega (arith, message_long found, shape_most c.in-Ok.ensures.shape, length-take c.message_length.result message),
    )

pub returns-in-Ok-decode_line : goal.returns-in-Ok-decode_line
returns-in-Ok-decode_line c =
    let found = (goal.at.returns-in-Ok-decode_line c).After-message_length in
    let line = c.args.line.now in
    let message = c.decode_line.new.message in
    let altered = c.in-Ok-decode_line.counts.altered in
    let frame = c.in-Ok.ensures.shape in
    let room = sym (c.has_room.ensures line frame) ∙ c.if-not-has_room.false in
    let text =
    ap₂ (λ (head : Head) (t : ℕ). success altered head (take t message)) frame.head (message_long found) in
    decoded frame.holds room _ c.in-Ok-decode_line.ensures
    (record {
      text = _;
      answers = (message_said found).0;
      shown = subst (λ (t : List ℕ). Shown t c.args.output.now c.write_success.result c.write_success.new.output) text c.write_success.ensures;
    })
