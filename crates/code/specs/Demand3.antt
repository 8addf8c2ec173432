-- Demand 3 on lists of bytes, in the user's words: the statements that proofs/Demand3 proves. A reception is any (T+m) × n bytes, of any value. The third
-- sentence speaks of what calls returned: it stands with decoding, in crate `link`; here it is said of messages that fit.
-- Holds: `FirstDifferingBlock`, `AtMostOneFits`, `IndependentOfLaterBlocks`, of a setting; `Demand3`, of every setting by its number.
use Rattle.std.specs.Prelude.{◌≡◌, List, ℕ, ◌+◌, ◌*◌, ◌<◌, T as Passes, length, take, drop}
use Rattle.code.specs.declared.Setting.{Setting}
use Rattle.code.specs.Settings.{is_setting, setting_of}
use Rattle.code.specs.Windows.{WithinLimit, Message, Fits}

-- "Let j be any information block. No reception differs in at most t symbols, over the window starting at block j, from each of the transmissions of
-- two messages of its setting and length that agree before block j and differ in block j", "where this sum over the window, at most d, stands in place of at
-- most t differing symbols" (02, #106).
abbrev pub FirstDifferingBlock : Setting → Type 0
FirstDifferingBlock p = (T : ℕ) (reception x y : List ℕ) (j : ℕ) → length reception ≡ (T + p.m) * p.n → Message p T x → Message p T y → j < T
    → take (j * p.k) x ≡ take (j * p.k) y
    → (take p.k (drop (j * p.k) x) ≡ take p.k (drop (j * p.k) y) → ⊥)
    → WithinLimit p reception x j → WithinLimit p reception y j → ⊥

-- "So at most one message fits a reception, whatever was received."
abbrev pub AtMostOneFits : Setting → Type 0
AtMostOneFits p = (T : ℕ) (reception x y : List ℕ) → Fits p T reception x → Fits p T reception y → x ≡ y

-- "And the .. messages of any two decodable receptions, of one setting and length and alike through the end of that window, have the same blocks
-- 0 to j, whatever stands after the window in either."
abbrev pub IndependentOfLaterBlocks : Setting → Type 0
IndependentOfLaterBlocks p = (T : ℕ) (v w x y : List ℕ) (j : ℕ) → Fits p T v x → Fits p T w y → j < T
    → take ((j + p.m + 1) * p.n) v ≡ take ((j + p.m + 1) * p.n) w → take ((j + 1) * p.k) x ≡ take ((j + 1) * p.k) y

-- Of the settings in use.
abbrev pub Demand3 : Type 0
Demand3 = (s : ℕ) → Passes (is_setting s) → FirstDifferingBlock (setting_of s) × AtMostOneFits (setting_of s) × IndependentOfLaterBlocks (setting_of s)
