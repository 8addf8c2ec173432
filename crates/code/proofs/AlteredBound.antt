-- What the counts of a message that fits can be at most. Each window of m + 1 blocks adds at most so much, and a number of blocks divided by m + 1, rounded up, so
-- many windows cover them: from the last block down, so that none of them starts past block T - 1.
-- Holds: `altered_bound` (02, #102); `damage_bound` (twice the altered symbols and the unknown ones of blocks 0 to T-1), `unknown_bound`.
use mathlib.Core.Path.{◌≡◌, sym, ap, subst, ◌∙◌}
use mathlib.Core.Bool.{not, ◌&&◌}
use mathlib.Core.List.{List}
use Prim.Native.Nat.{ℕ, zero, suc, ◌+◌, ◌-◌, ◌*◌, ◌/◌, ◌≤◌, ◌<◌}
use native.Mathlib.Nat.{zero-mul, suc-mul, mul-le-mul_right, div-add-mod', mod-lt}
use native.Mathlib.Omega.{arith}
use native.Mathlib.Decide.{dec_le}
use lib.Dec.{eqb}
use lib.ListN.{get_or}
use Rattle.algebra.specs.Ops.{pick}
use Rattle.algebra.specs.Weight.{total}
use Rattle.algebra.proofs.Weights.{total_ext, total_part, total_split, total_none}
use Rattle.field.specs.Symbols.{is_unknown}
use Rattle.code.specs.declared.Setting.{Setting}
use Rattle.code.specs.Code.{design_distance, limit}
use Rattle.code.specs.Windows.{transmission, window_length, window_symbol, unknown_symbols, altered, unknown_in, most_altered}
use Rattle.code.specs.Windows.{most_damage, most_unknown, Fits}
use Rattle.code.specs.parts.Cost.{symbol_cost}
use Rattle.code.proofs.Cost.{cost_count}

-- Blocks of n terms, where each window of m + 1 blocks that starts before block T totals at most b.
module _ (f : ℕ → ℕ) (n m T b : ℕ) (some : 1 ≤ T) (near : (j : ℕ) → j < T → total ((m + 1) * n) (λ i. f (j * n + i)) ≤ b) where
  -- The first `blocks` of T + m blocks, where so many windows cover them.
  within : (windows blocks : ℕ) → blocks ≤ windows * (m + 1) → blocks ≤ T + m → total (blocks * n) f ≤ b * windows
  within zero blocks few inside =
      let none : blocks ≡ 0 = omega arith in
      omega (arith, ap (λ (t : ℕ). total (t * n) f) none, ap (λ (t : ℕ). total t f) (zero-mul n), total_none f)
  within (suc windows) blocks few inside = at (within windows (blocks - (m + 1)) (omega (arith, suc-mul windows (m + 1))) (omega arith)) (dec_le (m + 1) blocks)
    where
      at : total ((blocks - (m + 1)) * n) f ≤ b * windows → Dec (m + 1 ≤ blocks) → total (blocks * n) f ≤ b * suc windows
      at before (yes l) =
          let all : blocks ≡ blocks - (m + 1) + (m + 1) = omega arith in
          let place : blocks * n ≡ (blocks - (m + 1)) * n + (m + 1) * n = ap (λ (t : ℕ). t * n) all ∙ omega arith in
          omega (
            arith,
            ap (λ (t : ℕ). total t f) place,
            total_split ((blocks - (m + 1)) * n) ((m + 1) * n) f,
            before,
            near (blocks - (m + 1)) (omega arith),
          )
      at before (no d) =
          let short : blocks ≤ m + 1 = omega arith in
          omega (
            arith,
            total_part f (blocks * n) ((m + 1) * n) (mul-le-mul_right n short),
            total_ext ((m + 1) * n) (λ i. f (0 * n + i)) f (λ i h. let start : 0 * n + i ≡ i = omega arith in ap f start),
            near 0 some,
          )

  -- They are as many as their number divided by m + 1, rounded up.
  covered : (blocks : ℕ) → blocks ≤ T + m → total (blocks * n) f ≤ b * ((blocks + m) / (m + 1))
  covered blocks inside =
      let positive : 0 < m + 1 = omega arith in
      within ((blocks + m) / (m + 1)) blocks (omega (arith, div-add-mod' (blocks + m) (m + 1), mod-lt (blocks + m) positive)) inside

-- What at most d of twice a count and another says of each.
half_of : (altered unknown d : ℕ) → 2 * altered + unknown ≤ d → altered ≤ d / 2
half_of altered unknown d h = omega arith

rest_of : (altered unknown d : ℕ) → 2 * altered + unknown ≤ d → unknown ≤ d
rest_of altered unknown d h = omega arith

module _ (p : Setting) (T : ℕ) (reception x : List ℕ) (F : Fits p T reception x) where
  abbrev pub received : ℕ → ℕ
  received i = get_or reception i 0

  abbrev pub sent : ℕ → ℕ
  sent i = get_or (transmission p x) i 0

  pub altered_bound : altered p T reception (transmission p x) ≤ most_altered p T
  altered_bound =
      covered (λ i. pick (not (is_unknown p.q (received i)) && not (eqb (received i) (sent i))) 1 0) p.n p.m T (limit p.n p.k p.m) F.message_of.blocks
      (λ j l. half_of _ _ _ (F.near j l)) T (omega arith)

  pub damage_bound : 2 * altered p T reception (transmission p x) + unknown_symbols p.q (T * p.n) received ≤ most_damage p T
  damage_bound =
      subst (λ (t : ℕ). t ≤ most_damage p T) (sym (cost_count p.q (T * p.n) received sent))
      (covered (λ i. symbol_cost p.q (received i) (sent i)) p.n p.m T (design_distance p.n p.k p.m) F.message_of.blocks
      (λ j l. subst (λ (t : ℕ). t ≤ design_distance p.n p.k p.m)
      (cost_count p.q (window_length p) (window_symbol p reception j) (window_symbol p (transmission p x) j)) (F.near j l))
      T (omega arith))

  pub unknown_bound : unknown_in p T reception ≤ most_unknown p T
  unknown_bound =
      covered (λ i. pick (is_unknown p.q (received i)) 1 0) p.n p.m T (design_distance p.n p.k p.m) F.message_of.blocks
      (λ j l. rest_of _ _ _ (F.near j l)) (T + p.m) (omega arith)
