-- What receiving something costs where something else was sent: two a known symbol that differs, one an unknown one. The sums are over any received symbols R,
-- any field F and any cost of a symbol; on bytes the cost is `symbol_cost`.
-- Holds: `symbol_cost`; `cost_to` (blocks of a frame), `block_cost` (a block against a combination), `rebuilt_cost` (a window against rebuilt blocks);
-- of a setting, on bytes: `level_cost`, `window_cost`, `zero_cost`, `message_cost`, `NearWindow`.
use Rattle.std.specs.Prelude.{List, ℕ, ◌+◌, ◌<◌, suc, length, get_or, eqb}
use Rattle.algebra.specs.Ops.{pick}
use Rattle.algebra.specs.Weight.{total}
use Rattle.area.specs.Lists.{view}
use Rattle.field.specs.Symbols.{is_unknown}
use Rattle.code.specs.declared.Setting.{Setting}
use Rattle.code.specs.Code.{distances_to, Code}
use Rattle.code.specs.Transmission.{sent_symbol}
use Rattle.code.specs.Settings.{code_of}
use Rattle.code.specs.Level.{combination}

-- What receiving byte v costs where symbol a of the field with q elements was sent: 1 where it is unknown, else 2 where they differ.
unfoldable pub symbol_cost : ℕ → ℕ → ℕ → ℕ
symbol_cost q v a = pick (is_unknown q v) 1 (pick (eqb v a) 0 2)

-- What blocks b .. b+l of a frame, of n symbols each, cost for what was received.
unfoldable pub cost_to : {R F : Type 0} → ℕ → (R → F → ℕ) → (ℕ → ℕ → R) → (ℕ → ℕ → F) → ℕ → ℕ → ℕ
cost_to n cost w a b l = total (suc l) (λ s. total n (λ i. cost (w (b + s) i) (a (b + s) i)))

-- What one block costs against the level-l combination of y.
unfoldable pub block_cost : {R F : Type 0} → Code F → (R → F → ℕ) → (ℕ → R) → ℕ → (ℕ → ℕ → F) → ℕ
block_cost c cost v l y = total c.n (λ i. cost (v i) (combination c l y i))

-- What blocks 0 .. l of a window cost against the blocks rebuilt from y.
unfoldable pub rebuilt_cost : {R F : Type 0} → Code F → (R → F → ℕ) → (ℕ → ℕ → R) → ℕ → (ℕ → ℕ → F) → ℕ
rebuilt_cost c cost w l y = total (suc l) (λ s. block_cost c cost (w s) s y)

-- What a block costs against the level-l combination of y.
abbrev pub level_cost : Setting → (ℕ → ℕ) → ℕ → (ℕ → ℕ → ℕ) → ℕ
level_cost p block l y = block_cost (code_of p) (symbol_cost p.q) block l y

-- What blocks 0 .. l of a window cost against the blocks rebuilt from y.
abbrev pub window_cost : Setting → List ℕ → ℕ → (ℕ → ℕ → ℕ) → ℕ
window_cost p window l y = rebuilt_cost (code_of p) (symbol_cost p.q) (view p.n window) l y

-- What symbols cost against zeros, in the field with q elements.
abbrev pub zero_cost : ℕ → List ℕ → ℕ
zero_cost q symbols = total (length symbols) (λ i. symbol_cost q (get_or symbols i 0) 0)

-- What window j of a reception costs where a message was sent.
abbrev pub message_cost : Setting → List ℕ → List ℕ → ℕ → ℕ
message_cost p reception message j = cost_to p.n (symbol_cost p.q) (view p.n reception) (sent_symbol (code_of p) (view p.k message)) j p.m

-- Window j of a reception is near a message: at a cost of at most d, that is less than d_0 + .. + d_m.
abbrev pub NearWindow : Setting → List ℕ → List ℕ → ℕ → Type 0
NearWindow p reception message j = message_cost p reception message j < distances_to p.n p.k p.m
