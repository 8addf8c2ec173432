-- 01's first two sample lines, and 02's with unknown symbols and a long head, from the worked orders of crate `link`.
-- Holds: `sample_read`, `sample_none`, `sample_unknown`, `sample_long_read`.
use mathlib.Core.Path.{◌≡◌, refl, sym, ap₂, subst, ◌∙◌}
use mathlib.Core.List.{List, [], ◌∷◌, ◌++◌, Memᴰ, map, append-nil}
use Prim.Native.Nat.{ℕ, ◌≤◌}
use lib.Dec.{lit≤}
use lib.ListN.{length, replicate}
use Rattle.area.specs.Lists.{overwritten}
use Rattle.field.specs.Symbols.{unknown_mark}
use Rattle.code.specs.Settings.{setting_of}
use Rattle.question.specs.declared.answer.Answer.{Answer}
use Rattle.question.specs.Questions.{first_no, blocks_of, passing_to, decoding_questions}
use Rattle.link.specs.Decoding.{FrameDecoded, DecodedIn, Decoded, well_formed}
use Rattle.link.specs.Orders.{decoding, Order, Promised, reads}
use Rattle.link.specs.Sample.{orders, closing_at_limit, closing_beyond_limit}
use Rattle.link.proofs.Orders.{orders_kept}
use Rattle.line.specs.Characters.{digit_of, character_of, hex, number_from}
use Rattle.line.specs.Heads.{setting_in, blocks_in, symbols_in}
use Rattle.line.specs.Questions.{line_questions}
use Rattle.line.specs.Answering.{output_line, Answers, refused, well_formed as answered}
use Rattle.line.specs.Sample.{SampleRead, SampleNone, SampleUnknown, SampleLongRead}

closing_listed : Memᴰ closing_at_limit orders
unfolding orders
closing_listed = Memᴰ.tail (Memᴰ.tail (Memᴰ.tail
    (Memᴰ.tail (Memᴰ.tail (Memᴰ.tail (Memᴰ.tail (Memᴰ.tail (Memᴰ.head refl))))))))

more_listed : Memᴰ closing_beyond_limit orders
unfolding orders
more_listed =
    Memᴰ.tail (Memᴰ.tail (Memᴰ.tail (Memᴰ.tail
    (Memᴰ.tail (Memᴰ.tail (Memᴰ.tail (Memᴰ.tail (Memᴰ.tail (Memᴰ.head refl)))))))))

-- "2431 followed by eight unknown symbols" (02, #106).
abbrev unknown_at_limit : Order
unknown_at_limit = reads 1 (2 ∷ 4 ∷ 3 ∷ 1 ∷ replicate 8 unknown_mark) (1 ∷ []) (2 ∷ 4 ∷ 3 ∷ 1 ∷ 2 ∷ 3 ∷ 2 ∷ 3 ∷ 2 ∷ 1 ∷ 3 ∷ 4 ∷ []) 0 8

unknown_listed : Memᴰ unknown_at_limit orders
unfolding orders
unknown_listed =
    Memᴰ.tail (Memᴰ.tail (Memᴰ.tail (Memᴰ.tail (Memᴰ.tail (Memᴰ.tail
    (Memᴰ.tail (Memᴰ.tail (Memᴰ.tail (Memᴰ.tail (Memᴰ.tail (Memᴰ.tail (Memᴰ.head refl))))))))))))

-- A reception of setting 1 and one block, decoded in areas that just hold the message and its transmission.
decoded_exactly : (reception : List ℕ) → (first_no (decoding_questions 1 reception 1 12)).number ≡ 0
    → blocks_of (setting_of 1) (length reception) ≡ 1 → (r : Answer) (message sent : List ℕ)
    → FrameDecoded (setting_of 1) 1 reception r message sent → Decoded 1 reception (0 ∷ []) (replicate 12 0) r message sent
decoded_exactly reception asked long r message sent D =
    well_formed asked (subst (λ (T : ℕ). DecodedIn (setting_of 1) T reception (0 ∷ []) (replicate 12 0) r message sent) (sym long) (record {
      message_part = message;
      transmission_part = sent;
      decoded = D;
      message_area = sym (append-nil message);
      transmission_area = sym (append-nil sent);
    }))

-- A line that holds the reception of a worked order gets the answer and the message of that order.
line_of_order : (line : List ℕ) (o : Order) → Promised decoding o
    → ((r : Answer) (x y : List ℕ) → FrameDecoded (setting_of (setting_in line)) (blocks_in line) (symbols_in line) r x y
    → Decoded o.setting o.given (0 ∷ []) (replicate 12 0) r x y)
    → length o.message ≤ 1 → length o.sent ≤ 12 → (first_no (line_questions line)).number ≡ 0 → {text : List ℕ} → Answers line text
    → text ≡ output_line line o.answer (overwritten o.message (0 ∷ []))
line_of_order line o kept decoded m s right (refused asked e) = absurd (asked right)
line_of_order line o kept decoded m s right (answered asked r message sent D e) =
    let same = kept (0 ∷ []) message (replicate 12 0) sent r m s (decoded r message sent D) in e ∙ ap₂ (output_line line) same.0 same.1

pub sample_read : SampleRead
unfolding digit_of character_of hex number_from passing_to
sample_read shown a =
    line_of_order (map character_of (1 ∷ 0 ∷ 0 ∷ 1 ∷ closing_at_limit.given)) closing_at_limit (orders_kept closing_at_limit closing_listed)
    (decoded_exactly closing_at_limit.given refl refl) (lit≤ tt) (lit≤ tt) refl a

pub sample_none : SampleNone
unfolding digit_of character_of hex number_from passing_to
sample_none shown a =
    line_of_order (map character_of (1 ∷ 0 ∷ 0 ∷ 1 ∷ closing_beyond_limit.given)) closing_beyond_limit (orders_kept closing_beyond_limit more_listed)
    (decoded_exactly closing_beyond_limit.given refl refl) (lit≤ tt) (lit≤ tt) refl a

pub sample_unknown : SampleUnknown
unfolding digit_of character_of hex number_from passing_to
sample_unknown shown a =
    line_of_order (map character_of (1 ∷ 0 ∷ 0 ∷ 1 ∷ 2 ∷ 4 ∷ 3 ∷ 1 ∷ []) ++ replicate 8 45) unknown_at_limit (orders_kept unknown_at_limit unknown_listed)
    (decoded_exactly unknown_at_limit.given refl refl) (lit≤ tt) (lit≤ tt) refl a

pub sample_long_read : SampleLongRead
unfolding digit_of character_of hex number_from passing_to
sample_long_read shown a =
    line_of_order (map character_of (10 ∷ 0 ∷ 0 ∷ 0 ∷ 1 ∷ closing_at_limit.given)) closing_at_limit (orders_kept closing_at_limit closing_listed)
    (decoded_exactly closing_at_limit.given refl refl) (lit≤ tt) (lit≤ tt) refl a
