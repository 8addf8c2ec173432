-- The bounds of the counts that a decoding call returns (02, #102, #106). Holds: `count_bound`.
use mathlib.Core.Path.{◌≡◌, refl, sym, ap, subst, ◌∙◌}
use mathlib.Core.Bool.{Bool, true, false}
use mathlib.Core.List.{List, [], ◌∷◌}
use Prim.Native.Nat.{ℕ}
use native.Mathlib.Omega.{arith}
use lib.ListN.{length}
use Rattle.algebra.specs.Ops.{pick}
use Rattle.code.specs.declared.Setting.{Setting}
use Rattle.code.specs.Settings.{setting_of}
use Rattle.code.proofs.AlteredBound.{altered_bound, damage_bound, unknown_bound}
use Rattle.question.specs.declared.answer.Answer.{Answer}
use Rattle.question.specs.Questions.{Question, answer, first_no, blocks_of, decoding_questions}
use Rattle.link.specs.Decoding.{FrameDecoded, found, none_fits, refused, well_formed, CountsBounded, CountBound}

-- "The count is 0" after a "no", and so is the number of unknown symbols.
first_no_counts : (l : List Question) → first_no l ≡ answer (first_no l).number (first_no l).place
first_no_counts [] = refl
first_no_counts (x ∷ rest) = at x.holds (first_no_counts rest)
  where
    at : (b : Bool) → first_no rest ≡ answer (first_no rest).number (first_no rest).place
        → pick b (first_no rest) (answer x.number x.place)
        ≡ answer (pick b (first_no rest) (answer x.number x.place)).number (pick b (first_no rest) (answer x.number x.place)).place
    at true e = e
    at false e = refl

module _ (p : Setting) (T : ℕ) (reception : List ℕ) where
  -- A refusal's are 0.
  refusal_bounded : {r : Answer} {number place : ℕ} → r ≡ answer number place → (number ≡ 0 → ⊥) → CountsBounded p T reception r
  refusal_bounded e h =
      record {
        altered_most = omega (arith, ap (λ (a : Answer). a.altered) e);
        damage_most = λ z. absurd (h (sym (ap (λ (a : Answer). a.number) e) ∙ z));
        unknown_most = omega (arith, ap (λ (a : Answer). a.unknown) e);
      }

  -- Of question 7's answer.
  frame_bounded : {r : Answer} {message sent : List ℕ} → FrameDecoded p T reception r message sent → CountsBounded p T reception r
  frame_bounded {message = message} (found F e t) =
      subst (CountsBounded p T reception) (sym e) (record {
        altered_most = altered_bound p T reception message F;
        damage_most = λ z. damage_bound p T reception message F;
        unknown_most = unknown_bound p T reception message F;
      })
  frame_bounded (none_fits far e m t) = refusal_bounded e (λ z. omega arith)

pub count_bound : CountBound
count_bound number reception message sent r message' sent' (refused h e m t) =
    refusal_bounded (setting_of number) (blocks_of (setting_of number) (length reception)) reception
    (e ∙ first_no_counts (decoding_questions number reception (length message) (length sent))) h
count_bound number reception message sent r message' sent' (well_formed asked D) =
    frame_bounded (setting_of number) (blocks_of (setting_of number) (length reception)) reception D.decoded
