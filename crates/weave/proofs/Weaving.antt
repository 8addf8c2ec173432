-- Woven frames: where each symbol goes, that weaving and unweaving undo each other, the columns of rows of symbols, and the calls.
-- Holds: `whole_frames` (the size of a frame); `length_transposed`, `transposed_symbol`, `transposed_twice`, `transposed_all`; `length_woven`,
-- `length_unwoven`, `woven_place`, `undone`, `rewoven`; of a column `column_length`, `column_symbol`, `column_all`, `column_part` (it is a frame of the
-- unwoven area), `column_one`, `column_size`; of the loop over the columns `column_room`, `transposed_of_columns`; of the calls `Movable`, `movable`, `unwoven_columns`, `laid_moved`.
use mathlib.Core.Path.{◌≡◌, sym, ap, ◌∙◌, subst}
use mathlib.Core.List.{List, ◌++◌}
use Prim.Native.Nat.{ℕ, ◌+◌, ◌*◌, ◌/◌, ◌%◌, ◌≤◌, ◌<◌}
use native.Mathlib.Nat.{div-one, div-mul-le_self, mul-div_cancel_left}
use native.Mathlib.Omega.{arith}
use lib.Arith.{digits_div, digits_mod, digits_lt}
use lib.ListN.{length, get_or, take, drop}
use lib.Seq.{length-take-le}
use Rattle.std.specs.List.{All}
use Rattle.std.proofs.lemmas.List.Elements.{All-from_get_or}
use Rattle.area.specs.Lists.{part_at}
use Rattle.area.proofs.Lists.{length_tabulate, get_d_tabulate, tabulated, place_in_blocks, blocks_hold, equal_blocks}
use Rattle.area.proofs.Parts.{parts_apart, length_part_at, part_at_symbol}
use Rattle.code.specs.parts.SettingNumbers.{parameters_of}
use Rattle.question.specs.declared.shape.WovenShape.{WovenShape}
use Rattle.question.specs.Questions.{answer, first_no, weaving_questions}
use Rattle.question.specs.parts.Shapes.{WovenOf}
use Rattle.question.proofs.Shapes.{reception_long, weaving_known}
use Rattle.weave.specs.Weaving.{transposed, woven, unwoven, WovenPlace, Undone, Rewoven, Laid}
use Rattle.weave.specs.parts.Columns.{column_of}

-- The size of each of D frames of one length.
pub whole_frames : (D long n : ℕ) → 1 ≤ D → n ≡ D * long → n / D ≡ long
whole_frames D long n h e = ap (λ (t : ℕ). t / D) e ∙ mul-div_cancel_left long h

-- Columns one after another: their number of symbols, ..
pub length_transposed : (rows columns : ℕ) (l : List ℕ) → length (transposed rows columns l) ≡ rows * columns
unfolding transposed
length_transposed rows columns l = length_tabulate _ _

-- .. and each symbol: symbol i of row f goes to i × rows + f.
pub transposed_symbol : (rows columns : ℕ) (l : List ℕ) (i f : ℕ) → i < columns → f < rows
    → get_or (transposed rows columns l) (i * rows + f) 0 ≡ get_or l (f * columns + i) 0
unfolding transposed
transposed_symbol rows columns l i f hi hf =
    let within : i * rows + f < rows * columns = omega (arith, digits_lt hi hf) in
    get_d_tabulate (rows * columns) (λ s. get_or l (s % rows * columns + s / rows) 0) (i * rows + f) 0 within
    ∙ (ap (λ (t : ℕ). get_or l (t * columns + (i * rows + f) / rows) 0) (digits_mod i hf)
    ∙ ap (λ (t : ℕ). get_or l (f * columns + t) 0) (digits_div i hf))

-- The columns of the columns are the rows.
pub transposed_twice : (rows columns : ℕ) (l : List ℕ) → length l ≡ rows * columns → transposed columns rows (transposed rows columns l) ≡ l
transposed_twice rows columns l long =
    let once = transposed rows columns l in
    let same_long : length (transposed columns rows once) ≡ rows * columns = omega (arith, length_transposed columns rows once) in
    equal_blocks rows columns (transposed columns rows once) l same_long long
    (λ f i hf hi. transposed_symbol columns rows once f i hf hi ∙ transposed_symbol rows columns l i f hi hf)

-- What all bytes are, all that are moved are.
pub transposed_all : (P : ℕ → Type 0) (rows columns : ℕ) (l : List ℕ) → length l ≡ rows * columns → All P l → All P (transposed rows columns l)
transposed_all P rows columns l long all =
    All-from_get_or P (transposed rows columns l) 0 (λ s h.
    let within : s < columns * rows = omega (arith, length_transposed rows columns l) in
    let place = place_in_blocks columns s rows (blocks_hold columns s rows within) within in
    subst (λ (t : ℕ). P (get_or (transposed rows columns l) t 0)) place.2
    (subst P (sym (transposed_symbol rows columns l (s / rows) (s % rows) place.0 place.1))
    (all (s % rows * columns + s / rows) 0 (omega (arith, long, digits_lt place.1 place.0)))))

-- D frames of one length keep their number of symbols, woven and unwoven.
module _ (D : ℕ) (l : List ℕ) (long : length l ≡ D * (length l / D)) where
  pub length_woven : length (woven D l) ≡ length l
  length_woven = length_transposed D (length l / D) l ∙ sym long

  pub length_unwoven : length (unwoven D l) ≡ length l
  length_unwoven = omega (arith, length_transposed (length l / D) D l, long)

pub woven_place : WovenPlace
woven_place D long f i frames e hf hi =
    let some : 1 ≤ D = omega arith in
    subst (λ (t : ℕ). get_or (transposed D t frames) (i * D + f) 0 ≡ get_or frames (f * long + i) 0) (sym (whole_frames D long (length frames) some e))
    (transposed_symbol D long frames i f hi hf)

-- Frames of the size long, in the form that the lengths take.
sized : (D long : ℕ) (l : List ℕ) → 1 ≤ D → length l ≡ D * long → length l ≡ D * (length l / D)
sized D long l h e = e ∙ ap (λ (t : ℕ). D * t) (sym (whole_frames D long (length l) h e))

pub undone : Undone
undone D long frames h e =
    let whole = sized D long frames h e in
    ap (λ (t : ℕ). transposed (t / D) D (woven D frames)) (length_woven D frames whole) ∙ transposed_twice D (length frames / D) frames whole

pub rewoven : Rewoven
rewoven D long area h e =
    let whole = sized D long area h e in
    let turned : length area ≡ length area / D * D = omega (arith, whole) in
    ap (λ (t : ℕ). transposed D (t / D) (unwoven D area)) (length_unwoven D area whole) ∙ transposed_twice (length area / D) D area turned

-- A column: its number of symbols, ..
module _ (D f : ℕ) (area : List ℕ) where
  pub column_length : length (column_of D f area) ≡ length area / D
  column_length = length_tabulate _ _

  -- .. each of them, ..
  pub column_symbol : (i : ℕ) → i < length area / D → get_or (column_of D f area) i 0 ≡ get_or area (i * D + f) 0
  column_symbol i h = get_d_tabulate _ _ i 0 h

  -- .. which stands within the rows.
  column_place : f < D → (i : ℕ) → i < length area / D → i * D + f < length area
  column_place hf i h =
      let within : i * D + f < length area / D * D = digits_lt h hf in omega (arith, within, div-mul-le_self (length area) D)

  pub column_all : (P : ℕ → Type 0) → f < D → All P area → All P (column_of D f area)
  column_all P hf all =
      All-from_get_or P (column_of D f area) 0 (λ i h.
      let inside : i < length area / D = omega (arith, column_length) in
      subst P (sym (column_symbol i inside)) (all (i * D + f) 0 (column_place hf i inside)))

  -- Of D woven frames, column f is frame f.
  pub column_part : f < D → column_of D f area ≡ part_at (length area / D) f (unwoven D area)
  column_part hf =
      let size = length area / D in
      let room : f * size + size ≤ length (unwoven D area) = omega (arith, parts_apart size D f hf, length_transposed size D area) in
      sym
      (tabulated (part_at size f (unwoven D area)) size (λ i. get_or area (i * D + f) 0) (length_part_at size f (unwoven D area) room)
      (λ i h. part_at_symbol size f (unwoven D area) i h ∙ transposed_symbol size D area f i hf h))

-- The one column of rows of one symbol.
pub column_one : (l : List ℕ) → column_of 1 0 l ≡ l
column_one l =
    sym
    (tabulated l (length l / 1) (λ i. get_or l (i * 1 + 0) 0) (sym (div-one (length l)))
    (λ i h. let place : i ≡ i * 1 + 0 = omega arith in ap (λ (t : ℕ). get_or l t 0) place))

-- The size of a column of rows whose number is known.
pub column_size : (rows columns c : ℕ) (l : List ℕ) → length l ≡ rows * columns → c < columns → length (column_of columns c l) ≡ rows
column_size rows columns c l long h =
    let some : 1 ≤ columns = omega arith in column_length columns c l ∙ whole_frames columns rows (length l) some (omega (arith, long))

-- Columns laid one after another in an area of as many symbols: the place of each, and all of them.
module _ (rows columns : ℕ) (area : List ℕ) (same : length area ≡ rows * columns) where
  pub column_room : (c : ℕ) → c < columns → c * rows + rows ≤ length area
  column_room c h = omega (arith, parts_apart rows columns c h, same)

  pub transposed_of_columns : (l : List ℕ) → length l ≡ rows * columns → ((c : ℕ) → c < columns → part_at rows c area ≡ column_of columns c l)
      → area ≡ transposed rows columns l
  transposed_of_columns l long parts =
      let turned : length area ≡ columns * rows = omega (arith, same) in
      equal_blocks columns rows area (transposed rows columns l) turned (omega (arith, length_transposed rows columns l))
      (λ c i hc hi.
      let inside : i < length l / columns = omega (arith, column_length columns c l, column_size rows columns c l long hc) in
      sym (part_at_symbol rows c area i hi)
      ∙ (ap (λ (t : List ℕ). get_or t i 0) (parts c hc) ∙ (column_symbol columns c l i inside ∙ sym (transposed_symbol rows columns l c i hc hi))))

-- What the calls know when every answer was "yes", of the shape w that the questions found and the length of one of its frames: the sizes are those of the
-- incoming symbols, and there is room for all of them.
pub record Movable (D : ℕ) (incoming before : List ℕ) (w : WovenShape) (size : ℕ) : Type 0 where
  pub frames : w.frames ≡ D
  pub size_is : size ≡ length incoming / D
  pub whole : length incoming ≡ w.frames * size
  pub front : length (take (length incoming) before) ≡ w.frames * size

-- Unweaving lays the columns of the woven symbols.
pub unwoven_columns : {D size : ℕ} {incoming before front : List ℕ} {w : WovenShape} → Movable D incoming before w size
    → front ≡ transposed size w.frames incoming → front ≡ unwoven D incoming
unwoven_columns {D} {size} {incoming} known e =
    e ∙ (ap (λ (t : ℕ). transposed size t incoming) known.frames ∙ ap (λ (t : ℕ). transposed t D incoming) known.size_is)

-- The calls: the symbols laid in front of what the area held.
module _ {number D : ℕ} {incoming before : List ℕ} where
  pub movable : {w : WovenShape} {size : ℕ} → WovenOf number D (length incoming) w
      → answer 0 0 ≡ first_no (weaving_questions number D incoming (length before))
      → size ≡ (w.frame.blocks + (parameters_of w.frame.setting).m) * (parameters_of w.frame.setting).n → Movable D incoming before w size
  movable {w} {size} r asked s =
      let known = weaving_known incoming (length before) r asked in
      let whole : length incoming ≡ w.frames * size = known.0 ∙ ap (λ (t : ℕ). w.frames * t) (sym s) in
      record {
        frames = r.count;
        size_is = s ∙ sym (reception_long r.frame);
        whole = whole;
        front = length-take-le (length incoming) before known.1 ∙ whole;
      }

  pub laid_moved : {laid front : List ℕ} → answer 0 0 ≡ first_no (weaving_questions number D incoming (length before)) → front ≡ laid
      → Laid number D incoming laid before (answer 0 0) (front ++ drop (length incoming) before)
  laid_moved a f = record { answered = a; area = ap (λ (l : List ℕ). l ++ drop (length incoming) before) f }
