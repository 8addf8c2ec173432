-- The loops that recover information blocks from the values.
-- Holds: `falling_none`, `falling_more`; `back_none`, `back_more`, the powers of 1/α; `block_none`, `block_more`, `is_lacking`; `read_more`.
use mathlib.Core.Path.{◌≡◌, refl, sym, ap, ap₂, subst, ◌∙◌}
use mathlib.Core.List.{List}
use Prim.Native.Nat.{ℕ, zero, suc, ◌+◌, ◌-◌, ◌*◌, ◌≤◌, ◌<◌}
use native.Mathlib.Nat.{mul-le-mul_right}
use native.Mathlib.Numerals.{add-one}
use native.Mathlib.Omega.{arith}
use native.Mathlib.Decide.{ℕ_discrete}
use lib.ListN.{length, set}
use lib.Seq.{get_or-set_same, get_or-set_other}
use Rattle.algebra.specs.Ops.{sub}
use Rattle.algebra.specs.Sum.{power}
use Rattle.algebra.specs.parts.Values.{falling}
use Rattle.area.specs.Lists.{view, part_at}
use Rattle.area.proofs.Parts.{part_at_symbol, put_before, put_inside, with_part}
use Rattle.field.specs.parts.Operations.{Good, Is}
use Rattle.field.specs.Fields.{ops_of, alpha}
use Rattle.field.specs.parts.Sequences.{AllBelow, at}
use Rattle.field.proofs.Laws.{laws_of, zero_below}
use Rattle.field.proofs.Symbols.{symbol_below, put_symbols, all_symbols, below_set}
use Rattle.code.specs.declared.Setting.{Setting}
use Rattle.code.specs.Generator.{times_g}
use Rattle.code.specs.parts.Recovery.{ending, Recovered}
use Rattle.code.specs.Settings.{code_of}
use Rattle.code.specs.parts.Sound.{Sound}
use Rattle.code.proofs.Blocks.{times_g_ext}
use Rattle.code.proofs.Settings.{information_fits}
use Rattle.block.specs.parts.Information.{lacking, BlockRead, InformationRead}
use Rattle.block.proofs.CandidateBelow.{recovered_more}

module _ (q : ℕ) (good : Good q) where
  falling_ext : (v w : ℕ → ℕ) (y k : ℕ) → ((e : ℕ) → e < k → v e ≡ w e) → falling (ops_of q) k v y ≡ falling (ops_of q) k w y
  unfolding falling
  falling_ext v w y zero same = refl
  falling_ext v w y (suc k) same =
      ap (λ (t : ℕ). (ops_of q).mul t y) (ap₂ (ops_of q).add (falling_ext v w y k (λ e l. same e (omega arith))) (same k (omega arith)))

  pub falling_none : (v : ℕ → ℕ) (y : ℕ) → Is q 0 (falling (ops_of q) 0 v y)
  unfolding falling ops_of
  falling_none v y = record { same = refl; below = zero_below q good }

  pub falling_more : (v : ℕ → ℕ) (y e s more r : ℕ) → Is q s (falling (ops_of q) e v y) → Is q more ((ops_of q).add s (v e)) → Is q r ((ops_of q).mul more y)
      → Is q r (falling (ops_of q) (e + 1) v y)
  unfolding falling
  falling_more v y e s more r h a t =
      record {
        same = t.same ∙ ap (λ (u : ℕ). (ops_of q).mul u y) (a.same ∙ ap (λ (u : ℕ). (ops_of q).add u (v e)) h.same)
            ∙ ap (λ (u : ℕ). falling (ops_of q) u v y) (sym (add-one e));
        below = t.below;
      }

  pub back_none : Is q 1 (power (ops_of q) ((ops_of q).inv alpha) 0)
  unfolding power ops_of
  back_none = record { same = refl; below = (laws_of q good).one_below }

  pub back_more : (j next back y r : ℕ) → j + 1 ≡ next → Is q back ((ops_of q).inv alpha) → Is q y (power (ops_of q) ((ops_of q).inv alpha) j)
      → Is q r ((ops_of q).mul back y) → Is q r (power (ops_of q) ((ops_of q).inv alpha) next)
  unfolding power
  back_more j next back y r e b h t =
      let more : suc j ≡ next = omega arith in
      record { same = t.same ∙ ap₂ (ops_of q).mul b.same h.same ∙ ap (power (ops_of q) ((ops_of q).inv alpha)) more; below = t.below }

module _ (p : Setting) (S : Sound p) where
  -- Only the k values and the k symbols of a block count.
  recovered_ext : (v w x y : ℕ → ℕ) (count : ℕ) → ((e : ℕ) → e < p.k → v e ≡ w e) → ((r : ℕ) → r < p.k → y r ≡ x r)
      → Recovered (code_of p) v count x → Recovered (code_of p) w count y
  unfolding ending
  recovered_ext v w x y count values symbols h =
      record {
        symbol = λ j l. times_g_ext (code_of p) y x 0 (p.n - suc j) symbols ∙ h.symbol j l
            ∙ ap (ops_of p.q).neg (falling_ext p.q S.good v w (power (ops_of p.q) ((ops_of p.q).inv alpha) (suc j)) p.k values);
      }

  module _ (values : List ℕ) (values_below : AllBelow p.q values) where
    pub block_none : (information : List ℕ) → AllBelow p.q information → BlockRead p 0 values information
    block_none information h = record { below = h; recovered = record { symbol = λ j l. absurd (omega arith) } }

    pub block_more : (j i point v : ℕ) (information : List ℕ) → length information ≡ p.k → i < p.k → j + 1 ≡ p.k - i
        → BlockRead p j values information
        → Is p.q point (power (ops_of p.q) ((ops_of p.q).inv alpha) (p.k - i)) → Is p.q v (lacking p values point information (p.k - i))
        → BlockRead p (p.k - i) values (set information i v)
    unfolding ending
    block_more j i point v information long l more h powers is =
        record {
          below = after_below;
          recovered = subst (λ (t : ℕ). Recovered (code_of p) (at values) t (at after)) next
              (recovered_more p S (at values) values_below j (at information) (at after) h.below after_below (omega arith) h.recovered
              (λ r s d. get_or-set_other information i r v 0 (λ e. d (omega arith)))
              (ap (at after) place ∙ get_or-set_same information i v 0 (omega (arith, long))
              ∙ is.same ∙ ap (λ (y : ℕ). lacking p values y information (p.k - i)) powers.same
              ∙ ap (λ (t : ℕ). lacking p values (power (ops_of p.q) ((ops_of p.q).inv alpha) t) information t) (sym next)));
        }
      where
        next : suc j ≡ p.k - i
        next = omega arith

        place : p.k - suc j ≡ i
        place = omega arith

        after : List ℕ
        after = set information i v

        after_below : AllBelow p.q after
        after_below = below_set p.q information i v h.below is.below

    pub is_lacking : (i point sum end known lack r : ℕ) (information : List ℕ) → length values ≡ p.k → i < p.k
        → Is p.q sum (falling (ops_of p.q) (length values) (at values) point)
        → Is p.q end ((ops_of p.q).neg sum) → Is p.q known (times_g (code_of p) (at information) 0 (p.n - p.k + i))
        → Is p.q lack (sub (ops_of p.q) end known)
        → Is p.q r ((ops_of p.q).add (at information i) lack) → Is p.q r (lacking p values point information (p.k - i))
    is_lacking i point sum end known lack r information long within s e g l h =
        record {
          same = h.same ∙ ap₂ (ops_of p.q).add (ap (at information) place) (l.same ∙ ap₂ (sub (ops_of p.q)) (e.same ∙ ap (ops_of p.q).neg ends) knows);
          below = h.below;
        }
      where
        place : i ≡ p.k - (p.k - i)
        place = omega arith

        column : p.n - p.k + i ≡ p.n - (p.k - i)
        column = omega (arith, information_fits p S)

        ends : sum ≡ falling (ops_of p.q) p.k (at values) point
        ends = s.same ∙ ap (λ (k : ℕ). falling (ops_of p.q) k (at values) point) long

        knows : known ≡ times_g (code_of p) (at information) 0 (p.n - (p.k - i))
        knows = g.same ∙ ap (times_g (code_of p) (at information) 0) column

    pub read_more : (b : ℕ) (information block : List ℕ) → b * p.k + p.k ≤ length information → length block ≡ p.k → InformationRead p b values information
        → BlockRead p p.k (part_at p.k b values) block → InformationRead p (b + 1) values (with_part p.k b information block)
    read_more b information block room long h new =
        record {
          below = symbol_below p.q _ (put_symbols start size information block p.q (all_symbols h.below) (all_symbols new.below)) (zero_below p.q S.good);
          recovered = λ a l. by_block a l (ℕ_discrete a b);
        }
      where
        start : ℕ
        start = b * p.k

        size : ℕ
        size = b * p.k + p.k - b * p.k

        after : List ℕ
        after = with_part p.k b information block

        -- Before the block and in it.
        before : (i : ℕ) → i < start → at after i ≡ at information i
        before = put_before start size information block (omega arith) (omega (arith, long))

        inside : (i : ℕ) → i < p.k → at after (start + i) ≡ at block i
        inside i l = put_inside start size information block (omega arith) (omega (arith, long)) i (omega arith)

        by_block : (a : ℕ) → a < b + 1 → Dec (a ≡ b) → Recovered (code_of p) (view p.k values a) p.k (view p.k after a)
        by_block a l (yes e) =
            subst (λ (t : ℕ). Recovered (code_of p) (view p.k values t) p.k (view p.k after t)) (sym e)
            (recovered_ext (at (part_at p.k b values)) (view p.k values b) (at block) (view p.k after b) p.k (part_at_symbol p.k b values) inside new.recovered)
        by_block a l (no d) =
            let up : a + 1 ≤ b = omega arith in
            recovered_ext (view p.k values a) (view p.k values a) (view p.k information a) (view p.k after a) p.k (λ e s. refl)
            (λ r t. before (a * p.k + r) (omega (arith, mul-le-mul_right p.k up))) (h.recovered a (omega arith))
