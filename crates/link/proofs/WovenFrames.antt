-- Woven frames: one after another decoded on its own part of the areas, and from there to decoding's promise of each.
-- Holds: `frames_more`, as the loop over the frames goes; `woven_known`; `alone`, `column_alone` (a frame by itself);
-- `woven_decoded`.
use mathlib.Core.Path.{◌≡◌, sym, ap, subst, ◌∙◌}
use mathlib.Core.Bool.{true}
use mathlib.Core.List.{List}
use Prim.Native.Nat.{ℕ, ◌+◌, ◌*◌, ◌/◌, ◌≤◌, ◌<◌}
use native.Mathlib.Omega.{arith}
use native.Mathlib.Decide.{ℕ_discrete}
use lib.ListN.{length, get_or, set}
use lib.Seq.{get_or-set_same, get_or-set_other}
use Rattle.area.specs.Lists.{part_at}
use Rattle.area.proofs.Parts.{parts_apart, length_part_at, with_part, part_put, part_put_before, drop_put}
use Rattle.code.specs.parts.Residual.{frame_length}
use Rattle.code.specs.declared.Setting.{Setting}
use Rattle.code.specs.Settings.{setting_of}
use Rattle.code.specs.parts.SettingNumbers.{parameters_of}
use Rattle.question.specs.declared.answer.Answer.{Answer}
use Rattle.question.specs.declared.shape.WovenShape.{WovenShape}
use Rattle.std.specs.List.{AllPass}
use Rattle.question.specs.Questions.{answer, is_received, first_no, blocks_of, woven_decoding_questions}
use Rattle.question.specs.parts.Shapes.{WovenOf}
use Rattle.question.proofs.Questions.{FrameShape, WovenDecodingYes, woven_decoding_yes}
use Rattle.question.proofs.Shapes.{reception_setting, reception_blocks}
use Rattle.weave.specs.Weaving.{unwoven}
use Rattle.weave.specs.parts.Columns.{column_of}
use Rattle.weave.proofs.Weaving.{column_length, column_all, column_part}
use Rattle.link.specs.declared.woven.WovenAnswer.{WovenAnswer}
use Rattle.link.specs.parts.WovenFrames.{FramesTo, EachDecoded}
use Rattle.link.specs.Decoding.{FrameDecoded, Decoded}
use Rattle.link.specs.Woven.{DecodedWoven, well_formed}
use Rattle.link.proofs.Decoding.{decoded_alone, frame_alone}

module _ (p : Setting) (T D : ℕ) (woven message transmitted : List ℕ) where
  -- One frame more, its parts of the areas of the sizes `short` and `long`.
  pub frames_more : (short long f : ℕ) (answers : List Answer) (messages sent part reread : List ℕ) (a : Answer) → short ≡ T * p.k → long ≡ frame_length p T
      → f < length answers → f * short + short ≤ length messages → length part ≡ short → f * long + long ≤ length sent → length reread ≡ long
      → FramesTo p T D f woven message transmitted answers messages sent → FrameDecoded p T (column_of D f woven) a part reread
      → FramesTo p T D (f + 1) woven message transmitted (set answers f a) (with_part short f messages part) (with_part long f sent reread)
  frames_more short long f answers messages sent part reread a e e' few short_room short_part long_room long_part F now =
      record {
        frame = λ g h. at g h (ℕ_discrete g f);
        no_frame = λ g h. get_or-set_other answers f g a (answer 0 0) (omega arith) ∙ F.no_frame g (omega arith);
        message_past = rw (sym e) (drop_put short f messages part short_room short_part message (rw e F.message_past));
        transmission_past = rw (sym e') (drop_put long f sent reread long_room long_part transmitted (rw e' F.transmission_past));
      }
    where
      at : (g : ℕ) → g < f + 1 → Dec (g ≡ f)
          → FrameDecoded p T (column_of D g woven) (get_or (set answers f a) g (answer 0 0)) (part_at (T * p.k) g (with_part short f messages part))
          (part_at (frame_length p T) g (with_part long f sent reread))
      at g h (yes s) =
          let here = part_put short f messages part short_room short_part in
          let here' = part_put long f sent reread long_room long_part in
          rw (s, sym e, sym e', get_or-set_same answers f a (answer 0 0) few, here, here') now
      at g h (no d) =
          let below : g < f = omega arith in
          let kept = part_put_before short f messages part short_room short_part g below in
          let kept' = part_put_before long f sent reread long_room long_part g below in
          rw (get_or-set_other answers f g a (answer 0 0) d, sym e, sym e', kept, kept') (rw (e, e') (F.frame g below))

-- What decoding of woven frames knows once the questions before 7 got "yes".
module _ (number D : ℕ) (reception message transmitted : List ℕ)
    (asked : (first_no (woven_decoding_questions number D reception (length message) (length transmitted))).number ≡ 0) where
  pub woven_known : WovenDecodingYes number D reception (length message) (length transmitted)
  woven_known = woven_decoding_yes number D reception (length message) (length transmitted) asked

  abbrev p : Setting
  p = setting_of number

  abbrev T : ℕ
  T = blocks_of p (length reception / D)

  -- One frame, alone.
  module _ (f : ℕ) (below : f < D) where
    abbrev frame : List ℕ
    frame = part_at (frame_length p T) f (unwoven D reception)

    -- It is column f of the woven area.
    frame_column : column_of D f reception ≡ frame
    frame_column = column_part D f reception below ∙ ap (λ (t : ℕ). part_at t f (unwoven D reception)) woven_known.woven.frame.long_is

    frame_long : length frame ≡ length reception / D
    frame_long = ap length (sym frame_column) ∙ column_length D f reception

    frame_shape : FrameShape p (length frame)
    frame_shape = subst (FrameShape p) (sym frame_long) woven_known.woven.frame

    frame_received : AllPass (is_received p.q) frame
    frame_received =
        subst (AllPass (is_received p.q)) frame_column (column_all D f reception (λ x. is_received p.q x ≡ true) below woven_known.received)

    frame_blocks : blocks_of p (length frame) ≡ T
    frame_blocks = ap (blocks_of p) frame_long

    -- Part f of an area with room for D parts.
    part_long : (size : ℕ) (area : List ℕ) → D * size ≤ length area → length (part_at size f area) ≡ size
    part_long size area room = length_part_at size f area (omega (arith, parts_apart size D f below))

    short : length (part_at (T * p.k) f message) ≡ blocks_of p (length frame) * p.k
    short = part_long (T * p.k) message woven_known.has_message_room ∙ ap (λ (t : ℕ). t * p.k) (sym frame_blocks)

    long : length (part_at (frame_length p T) f transmitted) ≡ frame_length p (blocks_of p (length frame))
    long = part_long (frame_length p T) transmitted woven_known.has_transmission_room ∙ ap (frame_length p) (sym frame_blocks)

    -- Question 7 of a column is decoding's promise of the frame alone, ..
    pub alone : {a : Answer} {part sent : List ℕ} → FrameDecoded p T (column_of D f reception) a part sent
        → Decoded number frame (part_at (T * p.k) f message) (part_at (frame_length p T) f transmitted) a part sent
    alone {a} {part} {sent} F =
        decoded_alone number frame (part_at (T * p.k) f message) (part_at (frame_length p T) f transmitted) woven_known.woven.setting frame_shape
        frame_received short long
        (subst (λ (t : ℕ). FrameDecoded p t frame a part sent) (sym frame_blocks) (subst (λ (l : List ℕ). FrameDecoded p T l a part sent) frame_column F))

    -- .. and the other way round.
    pub column_alone : {a : Answer} {part sent : List ℕ}
        → Decoded number frame (part_at (T * p.k) f message) (part_at (frame_length p T) f transmitted) a part sent
        → FrameDecoded p T (column_of D f reception) a part sent
    column_alone {a} {part} {sent} A =
        subst (λ (l : List ℕ). FrameDecoded p T l a part sent) (sym frame_column)
        (subst (λ (t : ℕ). FrameDecoded p t frame a part sent) frame_blocks
        (frame_alone number frame (part_at (T * p.k) f message) (part_at (frame_length p T) f transmitted) woven_known.woven.setting frame_shape
        frame_received short long A))

  -- All frames, of the shape that the questions found.
  pub woven_decoded : {w : WovenShape} → WovenOf number D (length reception) w → {r : WovenAnswer} {message' transmitted' : List ℕ}
      → EachDecoded (parameters_of w.frame.setting) w.frame.blocks w.frames reception message transmitted r message' transmitted'
      → DecodedWoven number D reception message transmitted r message' transmitted'
  woven_decoded {w} shape {r} {message'} {transmitted'} each =
      let E =
      subst (λ (t : ℕ). EachDecoded p T t reception message transmitted r message' transmitted') shape.count
      (subst (λ (t : ℕ). EachDecoded p t w.frames reception message transmitted r message' transmitted') (reception_blocks shape.frame)
      (subst (λ (s : Setting). EachDecoded s w.frame.blocks w.frames reception message transmitted r message' transmitted') (reception_setting shape.frame)
      each)) in
      well_formed asked E.answered
      (record {
        frame = λ f below. alone f below (E.frames.frame f below);
        no_frame = E.frames.no_frame;
        message_past = E.frames.message_past;
        transmission_past = E.frames.transmission_past;
      })
