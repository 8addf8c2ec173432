-- The calls undo each other: what one laid, the other lays back. Holds: `weaving_undone`, `unweaving_undone`.
use mathlib.Core.Path.{◌≡◌, ap, ap₂, ◌∙◌}
use mathlib.Core.Bool.{true}
use mathlib.Core.List.{List, ◌++◌}
use Prim.Native.Nat.{ℕ, ◌*◌, ◌/◌, ◌≤◌}
use native.Mathlib.Nat.{mul_comm}
use native.Mathlib.Omega.{arith}
use lib.ListN.{length, take, drop}
use lib.Seq.{take_at}
use borrow.Author.Tests.{eq-eqb}
use Rattle.std.specs.List.{All}
use Rattle.code.specs.Settings.{setting_of}
use Rattle.question.specs.declared.answer.Answer.{Answer}
use Rattle.question.specs.Questions.{answer, first_no, is_received, weaving_questions}
use Rattle.question.proofs.Questions.{number_of, weaving_yes, weaving_again}
use Rattle.weave.specs.Weaving.{woven, unwoven, CallUndone}
use Rattle.weave.proofs.Weaving.{length_woven, length_unwoven, transposed_all, undone, rewoven}

-- Of two ways to lay D frames of one length, of which the second undoes the first.
module _ (lay back : ℕ → List ℕ → List ℕ)
    (long : (D : ℕ) (l : List ℕ) → length l ≡ D * (length l / D) → length (lay D l) ≡ length l)
    (kept : (P : ℕ → Type 0) (D : ℕ) (l : List ℕ) → length l ≡ D * (length l / D) → All P l → All P (lay D l))
    (undo : (D : ℕ) (l : List ℕ) → 1 ≤ D → length l ≡ D * (length l / D) → back D (lay D l) ≡ l) where
  call_undone : CallUndone lay back
  call_undone number D incoming before after lent returned r s first zero room second =
      let asked = number_of first.answered zero in
      let known = weaving_yes number D incoming (length before) asked in
      let whole = known.0.whole in
      let some : 1 ≤ D = omega (arith, known.0.least) in
      let laid : after ≡ lay D incoming ++ drop (length incoming) before = simp (eq-eqb r.number 0 zero) at first.area in
      let front : take (length incoming) after ≡ lay D incoming =
      ap (take (length incoming)) laid ∙ take_at (lay D incoming) (drop (length incoming) before) (length incoming) (long D incoming whole) in
      let again : s ≡ answer 0 0 =
      second.answered
      ∙ (ap (λ (l : List ℕ). first_no (weaving_questions number D l (length lent))) front
      ∙ weaving_again number D incoming (lay D incoming) (length before) (length lent) asked (long D incoming whole)
      (kept (λ x. is_received (setting_of number).q x ≡ true) D incoming whole known.1.0) (omega (arith, long D incoming whole))) in (
        again,
        simp (eq-eqb s.number 0 (ap (λ (a : Answer). a.number) again)) at second.area
            ∙ (ap (λ (l : List ℕ). back D l ++ drop (length l) lent) front
            ∙ ap₂ ◌++◌ (undo D incoming some whole) (ap (λ (t : ℕ). drop t lent) (long D incoming whole))),
      )

pub weaving_undone : CallUndone woven unwoven
weaving_undone =
    call_undone woven unwoven length_woven (λ P D l whole all. transposed_all P D (length l / D) l whole all)
    (λ D l some whole. undone D (length l / D) l some whole)

pub unweaving_undone : CallUndone unwoven woven
unweaving_undone =
    call_undone unwoven woven length_unwoven (λ P D l whole all. transposed_all P (length l / D) D l (whole ∙ mul_comm D (length l / D)) all)
    (λ D l some whole. rewoven D (length l / D) l some whole)
