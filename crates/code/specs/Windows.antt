-- Transmissions, windows and fits on lists of bytes, as the demands, 01 and 02 (#102, #106) word them.
-- Holds: `transmission`, `window_length`, `window_symbol`; `unknown_symbols`, `known_distance`, `window_sum`; `altered`, `unknown_in`; `Message`,
-- `WithinLimit`, `Fits`; `window_distance`, `LimitEnough`, `AtMostLimit` and `KnownCounts`, 01's words for it; what the counts can be at most: `windows_for`,
-- `most_altered`, `most_damage`, `most_unknown`, computed in `most_altered_samples` and `most_unknown_samples`.
use Rattle.std.specs.Prelude.{◌≡◌, refl, not, ◌&&◌, List, ℕ, ◌+◌, ◌*◌, ◌/◌, ◌%◌, ◌≤◌, ◌<◌, T as Passes, eqb, length, get_or}
use Rattle.algebra.specs.Weight.{count_of, distance}
use Rattle.area.specs.Lists.{view, tabulate}
use Rattle.field.specs.Symbols.{Symbols, is_unknown}
use Rattle.code.specs.declared.Setting.{Setting}
use Rattle.code.specs.Code.{distances_to, design_distance, limit}
use Rattle.code.specs.Transmission.{sent_symbol}
use Rattle.code.specs.Settings.{is_setting, setting_of, code_of}

-- The transmission (the codeword) of a message (the information word): T+m blocks, "the m closing blocks" (the tail that returns the encoder to
-- zero) among them, one after the other.
unfoldable pub transmission : Setting → List ℕ → List ℕ
transmission p message =
    tabulate ((length message / p.k + p.m) * p.n) (λ s. sent_symbol (code_of p) (view p.k message) (s / p.n) (s % p.n))

-- "A window is m+1 consecutive blocks starting at an information block."
abbrev pub window_length : Setting → ℕ
window_length p = (p.m + 1) * p.n

-- Symbol i of window j of a frame.
abbrev pub window_symbol : Setting → List ℕ → ℕ → ℕ → ℕ
window_symbol p frame j i = get_or frame (j * p.n + i) 0

-- Of n received symbols: how many are unknown, and how many known ones differ from what was sent.
abbrev pub unknown_symbols : ℕ → ℕ → (ℕ → ℕ) → ℕ
unknown_symbols q n v = count_of n (λ i. is_unknown q (v i))

abbrev pub known_distance : ℕ → ℕ → (ℕ → ℕ) → (ℕ → ℕ) → ℕ
known_distance q n v a = count_of n (λ i. not (is_unknown q (v i)) && not (eqb (v i) (a i)))

-- "twice the known differing symbols plus the unknown ones" (02, #106), of window j of a reception and what was sent.
abbrev pub window_sum : Setting → List ℕ → List ℕ → ℕ → ℕ
window_sum p reception sent j =
    2 * known_distance p.q (window_length p) (window_symbol p reception j) (window_symbol p sent j)
    + unknown_symbols p.q (window_length p) (window_symbol p reception j)

-- "The altered count is the number of places .. where reception and returned transmission differ", it "covers blocks 0 to T−1 only" (02, #102), and
-- "Altered symbols are known ones only" (02, #106).
abbrev pub altered : Setting → ℕ → List ℕ → List ℕ → ℕ
altered p T reception sent = known_distance p.q (T * p.n) (λ i. get_or reception i 0) (λ i. get_or sent i 0)

-- "the number of unknown symbols over all blocks" (02, #106).
abbrev pub unknown_in : Setting → ℕ → List ℕ → ℕ
unknown_in p T reception = unknown_symbols p.q ((T + p.m) * p.n) (λ i. get_or reception i 0)

-- A message of T information blocks: T × k symbols below q.
pub record Message (p : Setting) (T : ℕ) (message : List ℕ) : Type 0 where
  pub blocks : 1 ≤ T
  pub long : length message ≡ T * p.k
  pub symbols : Symbols p.q message

-- In window j twice the known symbols in which the reception differs from the message's transmission, plus the unknown ones, is at most d.
abbrev pub WithinLimit : Setting → List ℕ → List ℕ → ℕ → Type 0
WithinLimit p reception message j = window_sum p reception (transmission p message) j ≤ design_distance p.n p.k p.m

-- "A message now fits when in each window twice the known differing symbols plus the unknown ones is at most d" (02, #106): a message (the information word)
-- and a reception (the received word) "of its setting and length". Any bytes may stand in a reception (`is_unknown`, crate `field`, says which are unknown).
pub record Fits (p : Setting) (T : ℕ) (reception message : List ℕ) : Type 0 where
  pub message_of : Message p T message
  pub long : length reception ≡ (T + p.m) * p.n
  pub near : (j : ℕ) → j < T → WithinLimit p reception message j

-- In how many symbols of window j two frames differ.
abbrev pub window_distance : Setting → List ℕ → List ℕ → ℕ → ℕ
window_distance p a b j = distance (window_length p) (window_symbol p a j) (window_symbol p b j)

-- 01's words for the limit, the transmission "differs from the reception in at most t symbols". Whatever was received, that is enough (`limit_enough`,
-- proofs/Demand3) ..
abbrev pub LimitEnough : Type 0
LimitEnough = (s T : ℕ) (reception message : List ℕ) (j : ℕ) → Passes (is_setting s) → Message (setting_of s) T message
    → window_distance (setting_of s) reception (transmission (setting_of s) message) j ≤ limit (setting_of s).n (setting_of s).k (setting_of s).m
    → WithinLimit (setting_of s) reception message j

-- .. and of a window without unknown symbols it is the same (`at_most_limit`, proofs/Cost).
abbrev pub AtMostLimit : Type 0
AtMostLimit = (p : Setting) (reception message : List ℕ) (j : ℕ) → ((i : ℕ) → i < window_length p → window_symbol p reception j i < p.q)
    → (WithinLimit p reception message j → window_distance p reception (transmission p message) j ≤ limit p.n p.k p.m)
    × (window_distance p reception (transmission p message) j ≤ limit p.n p.k p.m → WithinLimit p reception message j)

-- Where no symbol is unknown, all that differ are counted (`known_counts`, proofs/Cost).
abbrev pub KnownCounts : Type 0
KnownCounts = (q n : ℕ) (v a : ℕ → ℕ) → ((i : ℕ) → i < n → v i < q) → (known_distance q n v a ≡ distance n v a) × (unknown_symbols q n v ≡ 0)

-- How many windows cover so many blocks: their number divided by m+1, rounded up.
abbrev pub windows_for : Setting → ℕ → ℕ
windows_for p blocks = (blocks + p.m) / (p.m + 1)

-- The altered count: "The bound becomes t × (T/(m+1), rounded up)" (02, #102). Twice it plus the unknown symbols of blocks 0 to T−1, and the unknown symbols of
-- all T+m blocks, have d in the place of t.
abbrev pub most_altered : Setting → ℕ → ℕ
most_altered p T = limit p.n p.k p.m * windows_for p T

abbrev pub most_damage : Setting → ℕ → ℕ
most_damage p T = design_distance p.n p.k p.m * windows_for p T

abbrev pub most_unknown : Setting → ℕ → ℕ
most_unknown p T = design_distance p.n p.k p.m * windows_for p (T + p.m)

-- Examples, computed. The altered count: one block of setting 1; the eight of the worked order with count 12, which has as many as can be; 512 and 4,096 of setting 4.
pub most_altered_samples : (most_altered (setting_of 1) 1 ≡ 4) × (most_altered (setting_of 1) 8 ≡ 12) × (most_altered (setting_of 4) 512 ≡ 2048)
    × (most_altered (setting_of 4) 4096 ≡ 16384)
unfolding distances_to
most_altered_samples = (refl, refl, refl, refl)

-- Of eight blocks of setting 1 the altered symbols twice and the unknown ones; of one block, with its closing blocks, the unknown ones, as many as 02's order
-- has; of 4,096 of setting 4.
pub most_unknown_samples : (most_damage (setting_of 1) 8 ≡ 24) × (most_unknown (setting_of 1) 1 ≡ 8) × (most_unknown (setting_of 4) 4096 ≡ 33825)
unfolding distances_to
most_unknown_samples = (refl, refl, refl)
