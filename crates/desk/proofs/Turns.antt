-- Turns to the end of an input. Holds: `run_answers` (the answers to the lines of a whole input).
use Rattle.std.specs.Prelude.{Option, Some, None}
use mathlib.Core.Path.{◌≡◌, sym, ap, ap₂, subst, ◌∙◌}
use mathlib.Core.List.{List, [], ◌∷◌, ◌++◌, append_assoc}
use Prim.Native.Nat.{ℕ}
use Rattle.desk.specs.Texts.{lines_of, rest_of, last_of, Output}
use Rattle.desk.specs.Turns.{KeptLine, Kept, EndAnswered, TextAnswered, Turned, failed, ended, came, Run, again, more, last, RunAnswers}
use Rattle.desk.proofs.Texts.{lines_append, rest_append, output_append}

-- What a read gave says which case it is.
of_failed : {line line' : KeptLine} {written : List ℕ} → Turned None line line' written → (written ≡ []) × (line' ≡ line)
of_failed (failed e w l) = (w, l)
of_failed (ended e all) = cc
of_failed (came c text e all) = cc

of_ended : {line line' : KeptLine} {written : List ℕ} → Turned (Some []) line line' written → EndAnswered line written
of_ended (failed e w l) = cc
of_ended (ended e all) = all
of_ended (came c text e all) = cc

of_came : {c : ℕ} {text : List ℕ} {line line' : KeptLine} {written : List ℕ} → Turned (Some (c ∷ text)) line line' written
    → TextAnswered (c ∷ text) line line' written
of_came (failed e w l) = cc
of_came (ended e all) = cc
of_came {c} {text} {line} {line'} {written} (came c' text' e all) =
    let P : Option (List ℕ) → Type 0 = elim [ None ↦ Unit {0} | Some l ↦ TextAnswered l line line' written ] in subst P (sym e) all

-- All lines of the texts that follow, where `begun` of a line came before them.
run_from : (begun : List ℕ) {line : KeptLine} {text written : List ℕ} → Kept begun line → Run line text written
    → Output (lines_of begun text ++ last_of (rest_of begun text)) written
unfolding lines_of rest_of
run_from begun {text = text} kept (again {written = written} {rest = rest} turned run) =
    let nothing : rest ≡ written ++ rest = ap (λ (l : List ℕ). l ++ rest) (sym (of_failed turned).0) in
    subst (Output (lines_of begun text ++ last_of (rest_of begun text))) nothing
    (run_from begun (subst (Kept begun) (sym (of_failed turned).1) kept) run)
run_from begun kept (more {text = text} {written = written} {rest = rest} c input turned run) =
    let here : List ℕ = c ∷ input in
    let done = of_came turned begun kept in
    subst (λ (l : List (List ℕ)). Output l (written ++ rest))
    (sym (append_assoc (lines_of begun here) (lines_of (rest_of begun here) text) (last_of (rest_of (rest_of begun here) text)))
    ∙ ap₂ (λ (l : List (List ℕ)) (r : List ℕ). l ++ last_of r) (sym (lines_append begun here text)) (sym (rest_append begun here text)))
    (output_append done.0 (run_from (rest_of begun here) done.1 run))
run_from begun kept (last turned) = of_ended turned begun kept

-- An input that came in any number of reads, from where no line is kept: one answer for each of its lines.
pub run_answers : RunAnswers
run_answers line text written = run_from []
