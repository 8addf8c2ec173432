-- `line::characters::first_wrong_in_frame`: where all characters are right, none is found.
use mathlib.Core.Path.{◌≡◌, sym}
use mathlib.Core.Bool.{Bool, not}
use Prim.Native.Nat.{ℕ}
use native.Mathlib.Omega.{arith}
use lib.ListN.{length}
use borrow.Author.Tests.{le-ltb}
use Rattle.std.specs.List.{position_or_len}
use Rattle.std.proofs.lemmas.List.Sums.{position_or_len_is}
use Rattle.line.specs.Questions.{is_digit_or_mark}
use Rattle.line.proofs.characters.first_wrong_in_frame.Goals as goal

pub returns-then-all_right_in_frame : goal.returns-then-all_right_in_frame
returns-then-all_right_in_frame c =
    let frame = c.args.frame.now in
    let wrong : ℕ → Bool = λ x. not (is_digit_or_mark x) in
    let right = c.all_right_in_frame.ensures c.if-all_right_in_frame.true in
    let none : position_or_len wrong frame ≡ length frame =
    position_or_len_is wrong frame (length frame) 0 (omega arith) (λ k h. simp (right k 0 h)) (λ h. absurd (omega arith)) in
    sym (simp (none, le-ltb (length frame) (length frame) (omega arith)))
