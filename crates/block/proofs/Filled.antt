-- A block's symbols, 0 in the unknown places.
-- Holds: `filled_part`, `filled_itself`.
use mathlib.Core.Path.{◌≡◌, sym, ap, ◌∙◌}
use mathlib.Core.Bool.{Bool}
use mathlib.Core.List.{List}
use Prim.Native.Nat.{ℕ, ◌≤◌, ◌<◌}
use native.Mathlib.Omega.{arith}
use lib.ListN.{length, take}
use lib.Seq.{get_or-take}
use Rattle.algebra.specs.Ops.{pick}
use Rattle.field.specs.parts.Operations.{Good}
use Rattle.field.specs.parts.Sequences.{at}
use Rattle.field.proofs.Laws.{zero_below}
use Rattle.field.proofs.Symbols.{symbol_below, symbols_take, all_symbols}
use Rattle.code.specs.Windows.{unknown_symbols}
use Rattle.code.proofs.Cost.{known_byte, all_known}
use Rattle.block.specs.parts.Factors.{Filled}

module _ (q : ℕ) (good : Good q) (block : List ℕ) where
  -- The symbols of a block at the front of an area.
  pub filled_part : {area : List ℕ} (n : ℕ) → length block ≤ n → Filled q block area → Filled q block (take n area)
  filled_part {area} n room F =
      record {
        below = symbol_below q (take n area) (symbols_take q n area (all_symbols F.below)) (zero_below q good);
        same = λ i l. get_or-take n area i 0 (omega arith) ∙ F.same i l;
      }

  -- Without unknown symbols they are the block itself.
  pub filled_itself : unknown_symbols q (length block) (at block) ≡ 0 → Filled q block block
  filled_itself none =
      record {
        below = symbol_below q block (record { below = known }) (zero_below q good);
        same = λ i l. sym (ap (λ (t : Bool). pick t 0 (at block i)) (known_byte (known i l)));
      }
    where
      known : (i : ℕ) → i < length block → at block i < q
      known = all_known q (length block) (at block) none
