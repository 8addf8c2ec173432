-- What marking differences promises (01: "Another call marks the differences of a reception and a transmission in window j, .. one bit a symbol, the
-- earliest lowest, and gives how many marks are set"; 02, #101: "Marks become 64 bits wide"; #106: "marking differences shows unknown symbols as set").
-- Holds: `bits`; `is_marked`, `marked_at`, `marks_of`, `marks_set`; `marks_answer`, `Marked`; `SetCounts`, `MarksDistance`, `MarksSum`; `marked_samples`.
use Rattle.std.specs.Prelude.{◌≡◌, refl, Bool, true, false, not, ◌||◌, List, [], ◌∷◌, ℕ, zero, suc, ◌+◌, ◌*◌, ◌≤◌, ◌<◌, eqb, length, Result, Ok, Err}
use Rattle.std.specs.Int.Count.{ones}
use Rattle.algebra.specs.Ops.{pick}
use Rattle.algebra.specs.Weight.{count_of}
use Rattle.field.specs.Symbols.{unknown_mark}
use Rattle.code.specs.declared.Setting.{Setting}
use Rattle.code.specs.Settings.{setting_of}
use Rattle.code.specs.Windows.{window_length, window_symbol, known_distance, unknown_symbols, window_distance}
use Rattle.question.specs.declared.refusal.Refusal.{Refusal}
use Rattle.question.specs.Questions.{answer, first_no, is_received, marks_questions}
use Rattle.question.specs.Refusals.{number_of, place_of}
use Rattle.display.specs.declared.Marks.{Marks}
use Rattle.display.specs.declared.mark.Differences.{Differences}

-- The number with a bit for each of n tests, the first lowest.
unfoldable pub bits : ℕ → (ℕ → Bool) → ℕ
bits zero test = 0
bits (suc n) test = pick (test 0) 1 0 + 2 * bits n (λ i. test (suc i))

-- Whether a symbol is marked: "marking differences shows unknown symbols as set" (02, #106), whatever was sent; and of the others those that differ.
abbrev pub is_marked : ℕ → ℕ → Bool
is_marked received sent = eqb received unknown_mark || not (eqb received sent)

-- Whether symbol i of window j is.
abbrev pub marked_at : Setting → List ℕ → List ℕ → ℕ → ℕ → Bool
marked_at p reception sent j i = is_marked (window_symbol p reception j i) (window_symbol p sent j i)

-- A bit for each symbol of window j, and how many are set.
abbrev pub marks_of : Setting → List ℕ → List ℕ → ℕ → ℕ
marks_of p reception sent j = bits (window_length p) (marked_at p reception sent j)

abbrev pub marks_set : Setting → List ℕ → List ℕ → ℕ → ℕ
marks_set p reception sent j = count_of (window_length p) (marked_at p reception sent j)

-- What the outcome of a call stands for: "Refused marks and their number set are 0".
abbrev pub marks_answer : Result Differences Refusal → Marks
marks_answer (Ok found) = record { answer = answer 0 0; marks = found.marks; set = found.set }
marks_answer (Err refusal) = record { answer = answer (number_of refusal) (place_of refusal); marks = 0; set = 0 }

-- The answer is the first "no"; "Refused marks and their number set are 0"; otherwise the window's marks, and how many are set.
pub record Marked (number : ℕ) (reception sent : List ℕ) (j : ℕ) (r : Marks) : Type 0 where
  pub answered : r.answer ≡ first_no (marks_questions number (length reception) (length sent) j)
  pub marks : r.marks ≡ pick (eqb r.answer.number 0) (marks_of (setting_of number) reception sent j) 0
  pub set : r.set ≡ pick (eqb r.answer.number 0) (marks_set (setting_of number) reception sent j) 0

-- As many marks are set as `set` says (`set_counts`, proofs/Counted).
abbrev pub SetCounts : Type 0
SetCounts = (number : ℕ) (reception sent : List ℕ) (j : ℕ) (r : Marks) → Marked number reception sent j r → ones r.marks ≡ r.set

-- Of a window without unknown symbols as many as 01 has it: in how many symbols reception and transmission differ (`marks_distance`, proofs/Counted) ..
abbrev pub MarksDistance : Type 0
MarksDistance = (p : Setting) (reception sent : List ℕ) (j : ℕ) → ((i : ℕ) → i < window_length p → window_symbol p reception j i ≡ unknown_mark → ⊥)
    → marks_set p reception sent j ≡ window_distance p reception sent j

-- .. and of a window that question 4 admits as many as known symbols differ, and the unknown ones besides (`marks_sum`, proofs/Counted).
abbrev pub MarksSum : Type 0
MarksSum = (p : Setting) (reception sent : List ℕ) (j : ℕ) → p.q ≤ unknown_mark
    → ((i : ℕ) → i < window_length p → is_received p.q (window_symbol p reception j i) ≡ true)
    → marks_set p reception sent j
    ≡ known_distance p.q (window_length p) (window_symbol p reception j) (window_symbol p sent j)
    + unknown_symbols p.q (window_length p) (window_symbol p reception j)

-- Examples, computed: two unknown symbols, the first where the mark itself stands in the transmission; one that differs, and one that does not.
pub marked_samples : is_marked 255 255 ∷ is_marked 255 4 ∷ is_marked 3 4 ∷ is_marked 4 4 ∷ [] ≡ true ∷ true ∷ true ∷ false ∷ []
marked_samples = refl
