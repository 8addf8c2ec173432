-- How far the guess is settled: at the start, after other guesses, once block j was found; or that no message fits.
-- Holds: `settled_start`, `near_of_fits`, `fits_below`, `settled_none`, `settled_revised`, `settled_found`.
use mathlib.Core.Path.{◌≡◌, sym, ap, subst, ◌∙◌}
use mathlib.Core.List.{List}
use Prim.Native.Nat.{ℕ, ◌+◌, ◌-◌, ◌*◌, ◌≤◌, ◌<◌}
use native.Mathlib.Nat.{mul-le-mul_right}
use native.Mathlib.Omega.{arith}
use native.Mathlib.Decide.{dec_lt}
use lib.ListN.{length, get_or, replicate, length-replicate}
use Rattle.algebra.specs.Ops.{sub}
use Rattle.area.proofs.Lists.{get_d_zeros}
use Rattle.field.specs.Fields.{ops_of}
use Rattle.field.specs.Symbols.{Symbols}
use Rattle.field.proofs.Symbols.{symbol_below, symbols_zeros}
use Rattle.code.specs.declared.Setting.{Setting}
use Rattle.code.specs.parts.Sound.{Sound}
use Rattle.code.specs.Windows.{Fits}
use Rattle.code.specs.parts.InformationBlocks.{BlocksBelow}
use Rattle.code.specs.parts.Residual.{window_at}
use Rattle.code.proofs.CodeBelow.{positive}
use Rattle.code.proofs.Cost.{fits_near}
use Rattle.code.proofs.Residuals.{ahead, ahead_below, add_back, residual_window}
use Rattle.code.proofs.ResidualSteps.{residual_start}
use Rattle.frame.specs.parts.Window.{Near}
use Rattle.frame.specs.parts.Frame.{Settled, Revised, Added, NoneFits}

module _ (p : Setting) (S : Sound p) (T unknown : ℕ) (reception : List ℕ) where
  -- The zero message, and the reception itself as its residual.
  pub settled_start : (unknown ≡ 0 → Symbols p.q reception) → length reception ≡ (T + p.m) * p.n → (message : List ℕ) → message ≡ replicate (T * p.k) 0 → Settled p T unknown reception 0 message reception
  settled_start known long message e =
      record {
        areas = record {
          message_long = ap length e ∙ length-replicate (T * p.k) 0;
          message_symbols = subst (Symbols p.q) (sym e) (symbols_zeros p.q (T * p.k) (positive p S));
          residual_long = long;
          residual_symbols = known;
        };
        is_residual = residual_start p S T reception message zeros;
        begins = λ x f i l. absurd (omega arith);
      }
    where
      zeros : (i : ℕ) → get_or message i 0 ≡ 0
      zeros i = ap (λ (l : List ℕ). get_or l i 0) e ∙ get_d_zeros (T * p.k) i

  module _ (j : ℕ) (message residual : List ℕ) (P : Settled p T unknown reception j message residual) where
    found_below : (i : ℕ) → get_or message i 0 < p.q
    found_below = symbol_below p.q message P.areas.message_symbols (positive p S)

    -- What a message that fits has beyond the blocks found is near window j of the residual.
    pub near_of_fits : j < T → (x : List ℕ) → Fits p T reception x → Near p (window_at p residual j) p.m (ahead p x message j)
    near_of_fits l x F =
        rw (residual_window p S T reception message residual found_below P.is_residual x F.message_of j l (P.begins x F))
        (fits_near p S T reception x F j l)

    pub fits_below : (x : List ℕ) → Fits p T reception x → BlocksBelow p.q (ahead p x message j)
    fits_below x F = ahead_below p S x message j (symbol_below p.q x F.message_of.symbols (positive p S)) found_below

    -- The first block of what x has beyond.
    ahead_first : (x : List ℕ) (r : ℕ) → ahead p x message j 0 r ≡ sub (ops_of p.q) (get_or x (j * p.k + r) 0) (get_or message (j * p.k + r) 0)
    ahead_first x r =
        let place : (j + 0) * p.k + r ≡ j * p.k + r = omega arith in
        ap (λ (t : ℕ). sub (ops_of p.q) (get_or x t 0) (get_or message t 0)) place

    -- No near information: no message fits.
    pub settled_none : j < T → ((y : ℕ → ℕ → ℕ) → BlocksBelow p.q y → Near p (window_at p residual j) p.m y → ⊥) → NoneFits p T reception
    settled_none l far x F = far (ahead p x message j) (fits_below x F) (near_of_fits l x F)

    -- The blocks before j+1 of a message that fits, from those before j and block j.
    begins_more : (h : List ℕ) → ((i : ℕ) → i < j * p.k → get_or h i 0 ≡ get_or message i 0)
        → ((x : List ℕ) → Fits p T reception x → (r : ℕ) → r < p.k → get_or x (j * p.k + r) 0 ≡ get_or h (j * p.k + r) 0)
        → (x : List ℕ) → Fits p T reception x → (i : ℕ) → i < (j + 1) * p.k → get_or x i 0 ≡ get_or h i 0
    begins_more h same block x F i u = at (dec_lt i (j * p.k))
      where
        at : Dec (i < j * p.k) → get_or x i 0 ≡ get_or h i 0
        at (yes b) = P.begins x F i b ∙ sym (same i b)
        at (no b) =
            let place : j * p.k + (i - j * p.k) ≡ i = omega arith in
            subst (λ (t : ℕ). get_or x t 0 ≡ get_or h t 0) place (block x F (i - j * p.k) (omega arith))

    -- Other guesses from a later block on keep what is known.
    pub settled_revised : (i : ℕ) (message' residual' : List ℕ) → j ≤ i → Revised p T unknown i message residual message' residual'
        → Settled p T unknown reception j message' residual'
    settled_revised i message' residual' low N =
        record {
          areas = N.areas;
          is_residual = N.is_residual reception P.is_residual;
          begins = λ x F a u. P.begins x F a u ∙ sym (N.before a (omega (arith, mul-le-mul_right p.k low)));
        }

    -- Block j was found beyond the guess: it goes into the message, and its contribution out of the residual.
    pub settled_found : (z : ℕ → ℕ) (message' residual' : List ℕ) → j < T
        → ((y : ℕ → ℕ → ℕ) → BlocksBelow p.q y → Near p (window_at p residual j) p.m y → (r : ℕ) → r < p.k → y 0 r ≡ z r)
        → Added p T unknown j z message residual message' residual' → Settled p T unknown reception (j + 1) message' residual'
    settled_found z message' residual' l first D =
        record {
          areas = D.revised.areas;
          is_residual = D.revised.is_residual reception P.is_residual;
          begins = begins_more message' D.revised.before (λ x F r u.
              sym (add_back p S (get_or x (j * p.k + r) 0) (get_or message (j * p.k + r) 0)
              (symbol_below p.q x F.message_of.symbols (positive p S) (j * p.k + r)) (found_below (j * p.k + r)))
              ∙ ap ((ops_of p.q).add (get_or message (j * p.k + r) 0))
              (sym (ahead_first x r) ∙ first (ahead p x message j) (fits_below x F) (near_of_fits l x F) r u)
              ∙ sym (D.symbol r l u));
        }
