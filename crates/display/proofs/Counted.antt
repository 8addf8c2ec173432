-- How many marks are set: as a call says, and as 01 and 02 count. Holds: `set_counts`, `marks_distance`, `marks_sum`.
use mathlib.Core.Path.{◌≡◌, refl, sym, ap, ◌∙◌}
use mathlib.Core.Bool.{Bool, true, false, not, ◌&&◌, ◌||◌}
use Prim.Native.Nat.{ℕ, ◌+◌}
use lib.Count.{ones}
use lib.Dec.{eqb}
use borrow.Author.Tests.{ne_eqb}
use Rattle.algebra.specs.Ops.{pick}
use Rattle.algebra.specs.Weight.{count_of}
use Rattle.algebra.proofs.Weights.{count_of_ext, total_ext, total_add}
use Rattle.field.specs.Symbols.{unknown_mark, is_unknown}
use Rattle.code.specs.Settings.{setting_of}
use Rattle.code.specs.Windows.{window_length, window_symbol}
use Rattle.question.proofs.Questions.{unknown_is_mark}
use Rattle.display.specs.Marks.{bits, marked_at, SetCounts, MarksDistance, MarksSum}
use Rattle.display.proofs.Bits.{ones_bits}

-- Of the marks and the count where the questions got "yes", and of the zeros after a "no".
ones_either : (b : Bool) (n : ℕ) (test : ℕ → Bool) → ones (pick b (bits n test) 0) ≡ pick b (count_of n test) 0
unfolding ones
ones_either true n test = ones_bits n test
ones_either false n test = refl

pub set_counts : SetCounts
set_counts number reception sent j r M =
    let p = setting_of number in
    ap ones M.marks ∙ (ones_either (eqb r.answer.number 0) (window_length p) (marked_at p reception sent j) ∙ sym M.set)

pub marks_distance : MarksDistance
marks_distance p reception sent j known =
    count_of_ext (window_length p) (marked_at p reception sent j) (λ i. not (eqb (window_symbol p reception j i) (window_symbol p sent j i))) (λ i h.
    ap (λ (t : Bool). t || not (eqb (window_symbol p reception j i) (window_symbol p sent j i)))
    (ne_eqb (window_symbol p reception j i) unknown_mark (known i h)))

-- What is unknown is counted, and of the rest what differs.
either : (t s : Bool) → pick (t || s) 1 0 ≡ pick (not t && s) 1 0 + pick t 1 0
either true s = refl
either false true = refl
either false false = refl

pub marks_sum : MarksSum
marks_sum p reception sent j few received =
    let v = window_symbol p reception j in
    let differs : ℕ → Bool = λ i. not (eqb (v i) (window_symbol p sent j i)) in
    total_ext (window_length p) (λ i. pick (marked_at p reception sent j i) 1 0)
    (λ i. pick (not (is_unknown p.q (v i)) && differs i) 1 0 + pick (is_unknown p.q (v i)) 1 0)
    (λ i h. ap (λ (t : Bool). pick (t || differs i) 1 0) (sym (unknown_is_mark p.q (v i) few (received i h))) ∙ either (is_unknown p.q (v i)) (differs i))
    ∙ total_add (window_length p) (λ i. pick (not (is_unknown p.q (v i)) && differs i) 1 0) (λ i. pick (is_unknown p.q (v i)) 1 0)
