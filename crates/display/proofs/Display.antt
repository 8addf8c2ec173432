-- Window j of a frame, for the display and for marks: that it lies within the frame, and from the marks of two windows to the promise.
-- Holds: `part_inside`, `marked_found`.
use mathlib.Core.Path.{◌≡◌, ap, ap₂, ◌∙◌}
use mathlib.Core.List.{List}
use Prim.Native.Nat.{ℕ, ◌+◌, ◌*◌, ◌≤◌, ◌<◌}
use native.Mathlib.Omega.{arith}
use lib.Count.{ones}
use lib.ListN.{length, get_or, drop}
use lib.Seq.{get_or-take, get_or-drop}
use Rattle.code.specs.declared.Setting.{Setting}
use Rattle.code.specs.parts.Residual.{frame_length, window_at}
use Rattle.code.specs.parts.SettingNumbers.{number_of, parameters_of}
use Rattle.code.specs.parts.Sound.{Sound}
use Rattle.code.specs.Windows.{window_length, window_symbol}
use Rattle.code.proofs.FrameWindows.{window_inside}
use Rattle.code.proofs.Settings.{sound_of, number_known}
use Rattle.question.specs.declared.shape.Shape.{Shape}
use Rattle.question.specs.Questions.{answer, first_no, marks_questions}
use Rattle.question.specs.parts.Shapes.{ReceptionOf}
use Rattle.question.proofs.Shapes.{reception_setting}
use Rattle.display.specs.Marks.{bits, is_marked, marked_at, marks_of, marks_set, Marked}
use Rattle.display.proofs.Bits.{bits_agree, ones_bits}

-- Window j of a frame of this shape lies within it.
pub part_inside : (s : Shape) (frame : List ℕ) {j : ℕ} → j < s.blocks → length frame ≡ frame_length (parameters_of s.setting) s.blocks
    → Sound (parameters_of s.setting) × (j * (parameters_of s.setting).n + window_length (parameters_of s.setting) ≤ length frame)
part_inside s frame {j} h e =
    (sound_of (number_of s.setting) (number_known s.setting), omega (arith, window_inside (parameters_of s.setting) s.blocks j h, e))

-- A window's symbols.
part_symbol : (p : Setting) (frame : List ℕ) (j i : ℕ) {part : List ℕ} → part ≡ window_at p frame j → i < window_length p
    → get_or part i 0 ≡ window_symbol p frame j i
part_symbol p frame j i e h =
    ap (λ (l : List ℕ). get_or l i 0) e ∙ (get_or-take (window_length p) (drop (j * p.n) frame) i 0 h ∙ get_or-drop (j * p.n) frame i 0)

-- The marks of the two parts are the window's.
pub marked_found : {number : ℕ} {reception sent : List ℕ} (j : ℕ) {s : Shape} {received given : List ℕ} {found : ℕ}
    → ReceptionOf number (length reception) s → answer 0 0 ≡ first_no (marks_questions number (length reception) (length sent) j)
    → (received ≡ window_at (parameters_of s.setting) reception j) × (length received ≡ window_length (parameters_of s.setting))
    → given ≡ window_at (parameters_of s.setting) sent j
    → found ≡ bits (length received) (λ i. is_marked (get_or received i 0) (get_or given i 0))
    → Marked number reception sent j (record { answer = answer 0 0; marks = found; set = ones found })
marked_found {number} {reception} {sent} j {s} {received} {given} {found} r asked a b f =
    let p = parameters_of s.setting in
    let marks : found ≡ marks_of p reception sent j =
    f ∙ (ap (λ (n : ℕ). bits n (λ i. is_marked (get_or received i 0) (get_or given i 0))) a.1
    ∙ bits_agree (window_length p) (λ i. is_marked (get_or received i 0) (get_or given i 0))
    (marked_at p reception sent j)
    (λ i h. ap₂ is_marked (part_symbol p reception j i a.0 h) (part_symbol p sent j i b h))) in
    record {
      answered = asked;
      marks = marks ∙ ap (λ (p : Setting). marks_of p reception sent j) (reception_setting r);
      set =
          ap ones marks
          ∙ (ones_bits (window_length p) (marked_at p reception sent j)
          ∙ ap (λ (p : Setting). marks_set p reception sent j) (reception_setting r));
    }
