-- The residual: what is left of a reception once a message's transmission is taken out (01, "Reading a reception").
-- Holds: `less`, `plus`; `IsResidual`; of frames `frame_length`, `window_at`.
use Rattle.std.specs.Prelude.{◌≡◌, List, ℕ, ◌+◌, ◌*◌, ◌<◌, take, drop}
use Rattle.algebra.specs.Ops.{sub, pick}
use Rattle.area.specs.Lists.{view}
use Rattle.field.specs.Fields.{ops_of}
use Rattle.field.specs.Symbols.{is_unknown}
use Rattle.code.specs.Windows.{window_length}
use Rattle.code.specs.declared.Setting.{Setting}
use Rattle.code.specs.Transmission.{sent_symbol}
use Rattle.code.specs.Settings.{code_of}

-- A received byte less a symbol, and plus one: an unknown byte stays as it is.
abbrev pub less : ℕ → ℕ → ℕ → ℕ
less q v a = pick (is_unknown q v) v (sub (ops_of q) v a)

abbrev pub plus : ℕ → ℕ → ℕ → ℕ
plus q v a = pick (is_unknown q v) v ((ops_of q).add v a)

-- The residual of a reception of T+m blocks for a message: the reception less the message's transmission.
pub record IsResidual (p : Setting) (T : ℕ) (reception message residual : List ℕ) : Type 0 where
  pub symbol : (s i : ℕ) → s < T + p.m → i < p.n
      → view p.n residual s i ≡ less p.q (view p.n reception s i) (sent_symbol (code_of p) (view p.k message) s i)

-- How many symbols a frame of T information blocks has: T+m blocks of n.
abbrev pub frame_length : Setting → ℕ → ℕ
frame_length p T = (T + p.m) * p.n

-- Window j of a frame.
abbrev pub window_at : Setting → List ℕ → ℕ → List ℕ
window_at p frame j = take (window_length p) (drop (j * p.n) frame)
