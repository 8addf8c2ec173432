-- A burst: one run of at most D × `most` symbols of a woven area meets each of the D frames in at most `most` symbols. Where these cost at most d together,
-- every message fits its frame and comes back: t symbols cost at most 2 each, and d unknown ones 1 each.
-- Holds: `met_before`, `met_after` (the symbols of one frame in a run); `burst_fits`; `returned`; `burst_returned`, `blank_returned`.
use mathlib.Core.Path.{◌≡◌, sym, ap, subst, ◌∙◌}
use mathlib.Core.List.{List, ◌++◌}
use Prim.Native.Nat.{ℕ, ◌+◌, ◌-◌, ◌*◌, ◌/◌, ◌≤◌, ◌<◌}
use native.Mathlib.Nat.{le-div_iff_mul-le, div-lt_iff_lt-mul, mul-le-mul_right}
use native.Mathlib.Omega.{arith}
use native.Mathlib.Decide.{dec_lt}
use lib.Arith.{digits_lt}
use lib.ListN.{length, get_or, drop}
use borrow.Author.Tests.{leb-true}
use Rattle.algebra.proofs.Weights.{total_run}
use Rattle.area.specs.Lists.{part_at, in_turn}
use Rattle.area.proofs.Parts.{in_turn_of_parts, length_in_turn, part_at_in_turn, part_at_symbol}
use Rattle.field.proofs.Symbols.{symbol_below}
use Rattle.code.specs.parts.Residual.{frame_length}
use Rattle.code.specs.declared.Setting.{Setting}
use Rattle.code.specs.Code.{design_distance}
use Rattle.code.specs.Settings.{setting_of}
use Rattle.code.specs.Windows.{transmission, window_length, window_symbol, Message, Fits}
use Rattle.code.specs.parts.Cost.{symbol_cost}
use Rattle.code.specs.parts.Sound.{Sound}
use Rattle.code.proofs.FrameWindows.{window_inside}
use Rattle.code.proofs.Settings.{sound_of, block_positive}
use Rattle.code.proofs.CodeBelow.{positive, transmission_length, transmission_symbols}
use Rattle.code.proofs.Cost.{cost_unknown, cost_same, cost_most, cost_count}
use Rattle.code.proofs.Demand3.{at_most_one_fits}
use Rattle.question.specs.declared.answer.Answer.{Answer}
use Rattle.question.specs.Questions.{answer, blocks_of}
use Rattle.weave.specs.Weaving.{woven}
use Rattle.weave.specs.parts.Columns.{column_of}
use Rattle.weave.proofs.Weaving.{whole_frames, column_symbol, column_length, length_woven, woven_place}
use Rattle.link.specs.declared.woven.WovenAnswer.{WovenAnswer}
use Rattle.link.specs.Decoding.{FrameDecoded, found, none_fits}
use Rattle.link.specs.Woven.{refused, well_formed, OneRun, AllReturned, RunReturned, BurstReturned, BlankReturned}
use Rattle.link.proofs.WovenFrames.{woven_known, column_alone}

-- Symbol i of frame f of D stands at i × D + f: the first that stands at `start` or later, ..
module _ (D f start : ℕ) (below : f < D) where
  abbrev first_met : ℕ
  first_met = (start + (D - 1 - f)) / D

  frames_positive : 0 < D
  frames_positive = omega arith

  -- .. those before it, and those `most` or more after it, which are past a run of at most D × `most` symbols.
  pub met_before : (i : ℕ) → i < first_met → i * D + f < start
  met_before i h = let last : (i + 1) * D ≤ start + (D - 1 - f) = (le-div_iff_mul-le frames_positive).0 (omega arith) in omega arith

  pub met_after : (most run i : ℕ) → run ≤ D * most → first_met + most ≤ i → start + run ≤ i * D + f
  met_after most run i few h =
      let next : start + (D - 1 - f) < (first_met + 1) * D = (div-lt_iff_lt-mul frames_positive).0 (omega arith) in
      let far : (first_met + most) * D ≤ i * D = mul-le-mul_right D h in
      omega arith

-- A message that fits comes back.
pub returned : (p : Setting) → Sound p → (T : ℕ) {reception x : List ℕ} {r : Answer} {message sent : List ℕ}
    → FrameDecoded p T reception r message sent → Fits p T reception x → (r.number ≡ 0) × (message ≡ x) × (sent ≡ transmission p x)
returned p S T {reception} {x} {r} {message} (found F e t) G =
    let same : message ≡ x = at_most_one_fits p S T reception message x F G in
    (ap (λ (a : Answer). a.number) e, same, t ∙ ap (transmission p) same)
returned p S T {x = x} (none_fits far e m t) G = absurd (far x G)

module _ (p : Setting) (S : Sound p) (D T start run : ℕ) (messages : ℕ → List ℕ) (received : List ℕ) (each : (f : ℕ) → f < D → Message p T (messages f))
    (only : OneRun start run (woven D (in_turn D (λ f. transmission p (messages f)))) received) (some : 1 ≤ D) where
  abbrev sent : List ℕ
  sent = in_turn D (λ f. transmission p (messages f))

  sent_each : (f : ℕ) → f < D → length (transmission p (messages f)) ≡ frame_length p T
  sent_each f h = transmission_length p S T (messages f) (each f h)

  sent_long : length sent ≡ D * frame_length p T
  sent_long = length_in_turn (frame_length p T) D (λ f. transmission p (messages f)) sent_each

  one_long : length sent / D ≡ frame_length p T
  one_long = whole_frames D (frame_length p T) (length sent) some sent_long

  received_long : length received ≡ D * frame_length p T
  received_long = only.long ∙ (length_woven D sent (sent_long ∙ ap (λ (t : ℕ). D * t) (sym one_long)) ∙ sent_long)

  received_one : length received / D ≡ frame_length p T
  received_one = whole_frames D (frame_length p T) (length received) some received_long

  module _ (f : ℕ) (below : f < D) where
    -- Symbol i of frame f is the sent one wherever the symbol at its place is.
    kept : (i : ℕ) → i < frame_length p T → get_or received (i * D + f) 0 ≡ get_or (woven D sent) (i * D + f) 0
        → get_or (column_of D f received) i 0 ≡ get_or (transmission p (messages f)) i 0
    kept i h same =
        column_symbol D f received i (omega (arith, received_one))
        ∙ (same
        ∙ (woven_place D (frame_length p T) f i sent sent_long below h
        ∙ (sym (part_at_symbol (frame_length p T) f sent i h)
        ∙ ap (λ (l : List ℕ). get_or l i 0) (part_at_in_turn (frame_length p T) D (λ f. transmission p (messages f)) sent_each f below))))

    -- What it costs: nothing there, ..
    abbrev cost : ℕ → ℕ
    cost i = symbol_cost p.q (get_or (column_of D f received) i 0) (get_or (transmission p (messages f)) i 0)

    kept_cost : (i : ℕ) → i < frame_length p T → get_or received (i * D + f) 0 ≡ get_or (woven D sent) (i * D + f) 0 → cost i ≡ 0
    kept_cost i h same =
        let known : get_or (column_of D f received) i 0 < p.q =
        subst (λ (t : ℕ). t < p.q) (sym (kept i h same))
        (symbol_below p.q (transmission p (messages f)) (transmission_symbols p S T (messages f) (each f below)) (positive p S) i) in
        cost_same p.q _ _ known (kept i h same)

    -- .. and elsewhere no more than a symbol of the run.
    module _ (most price : ℕ) (few : run ≤ D * most) (near : price * most ≤ design_distance p.n p.k p.m)
        (met : (s a : ℕ) → start ≤ s → s < start + run → s < length received → symbol_cost p.q (get_or received s 0) a ≤ price) where
      most_cost : (i : ℕ) → i < frame_length p T → cost i ≤ price
      most_cost i h = at (dec_lt (i * D + f) start) (dec_lt (i * D + f) (start + run))
        where
          at : Dec (i * D + f < start) → Dec (i * D + f < start + run) → cost i ≤ price
          at (yes l) _ = omega (arith, kept_cost i h (only.before _ l))
          at (no d) (no u) = omega (arith, kept_cost i h (only.after _ (omega arith)))
          at (no d) (yes u) =
              subst (λ (t : ℕ). symbol_cost p.q t (get_or (transmission p (messages f)) i 0) ≤ price)
              (sym (column_symbol D f received i (omega (arith, received_one))))
              (met (i * D + f) _ (omega arith) u (omega (arith, received_long, digits_lt h below)))

      pub burst_fits : Fits p T (column_of D f received) (messages f)
      burst_fits =
          record {
            message_of = each f below;
            long = column_length D f received ∙ received_one;
            near = λ j l.
                let end : j * p.n + window_length p ≤ frame_length p T = window_inside p T j l in
                let first : ℕ = first_met D f start below in
                omega (
                  arith,
                  near,
                  cost_count p.q (window_length p) (window_symbol p (column_of D f received) j) (window_symbol p (transmission p (messages f)) j),
                  total_run (window_length p) (first - j * p.n) most price (λ i. cost (j * p.n + i))
                      (λ i h early. kept_cost (j * p.n + i) (omega arith) (only.before _ (met_before D f start below (j * p.n + i) (omega arith))))
                      (λ i h late.
                      kept_cost (j * p.n + i) (omega arith) (only.after _ (met_after D f start below most run (j * p.n + i) few (omega arith))))
                      (λ i h. most_cost (j * p.n + i) (omega arith)),
                );
          }

-- T of the frames that came in.
blocks_back : (p : Setting) → Sound p → (T long : ℕ) → long ≡ frame_length p T → blocks_of p long ≡ T
blocks_back p S T long e =
    let back : long / p.n ≡ T + p.m = whole_frames p.n (T + p.m) long (block_positive p S) (omega arith) in
    omega arith

-- The areas from the frames.
frames_returned : (p : Setting) → Sound p → (D T : ℕ) (messages : ℕ → List ℕ) (message transmitted : List ℕ) (r : WovenAnswer)
    (message' transmitted' : List ℕ) → ((f : ℕ) → f < D → Message p T (messages f))
    → drop (D * (T * p.k)) message' ≡ drop (D * (T * p.k)) message
    → drop (D * frame_length p T) transmitted' ≡ drop (D * frame_length p T) transmitted
    → ((f : ℕ) → f < D → ((get_or r.frame f (answer 0 0)).number ≡ 0) × (part_at (T * p.k) f message' ≡ messages f)
    × (part_at (frame_length p T) f transmitted' ≡ transmission p (messages f)))
    → AllReturned p D messages message transmitted r message' transmitted'
frames_returned p S D T messages message transmitted r message' transmitted' each past sent_past back =
    record {
      accepted = λ f below. (back f below).0;
      messages_back = in_turn_of_parts (T * p.k) D messages message' message (λ f below. (back f below).1) past
          ∙ ap (λ (t : ℕ). in_turn D messages ++ drop t message) (sym (length_in_turn (T * p.k) D messages (λ f below. (each f below).long)));
      transmissions_back =
          in_turn_of_parts (frame_length p T) D (λ f. transmission p (messages f)) transmitted' transmitted (λ f below. (back f below).2) sent_past
          ∙ ap (λ (t : ℕ). in_turn D (λ f. transmission p (messages f)) ++ drop t transmitted)
          (sym (length_in_turn (frame_length p T) D (λ f. transmission p (messages f)) (λ f below. transmission_length p S T (messages f) (each f below))));
    }

-- Of any run whose symbols cost at most `price` each, and `most` of them at most d.
run_returned : (number D start run most price : ℕ) (received : List ℕ)
    → price * most ≤ design_distance (setting_of number).n (setting_of number).k (setting_of number).m
    → ((s a : ℕ) → start ≤ s → s < start + run → s < length received → symbol_cost (setting_of number).q (get_or received s 0) a ≤ price)
    → RunReturned number D start run most received
run_returned number D start run most price received near met T messages message transmitted r message' sent' each only few asked (refused h e none m t) =
    absurd (h asked)
run_returned number D start run most price received near met T messages message transmitted r message' sent' each only few asked (well_formed h e frames) =
    let p = setting_of number in
    let known = woven_known number D received message transmitted asked in
    let S = sound_of number known.woven.setting in
    let some : 1 ≤ D = omega (arith, known.woven.least) in
    let T' = blocks_of p (length received / D) in
    let same : T' ≡ T = blocks_back p S T (length received / D) (received_one p S D T start run messages received each only some) in
    let each' : (f : ℕ) → f < D → Message p T' (messages f) = λ f below. subst (λ (t : ℕ). Message p t (messages f)) (sym same) (each f below) in
    frames_returned p S D T' messages message transmitted r message' sent' each' frames.message_past frames.transmission_past
    (λ f below.
    returned p S T' (column_alone number D received message transmitted asked f below (frames.frame f below))
    (burst_fits p S D T' start run messages received each' only some f below most price few near met))

pub burst_returned : BurstReturned
burst_returned number D start run received =
    run_returned number D start run _ 2 received (omega arith) (λ s a h l i. cost_most (setting_of number).q (get_or received s 0) a)

pub blank_returned : BlankReturned
blank_returned number D start run received lost =
    let q = (setting_of number).q in
    run_returned number D start run _ 1 received (omega arith)
    (λ s a h l i. omega (arith, cost_unknown q (get_or received s 0) a (leb-true q (get_or received s 0) (lost s h l i))))
