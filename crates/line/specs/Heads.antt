-- The head of a line: which setting and T it says, in one of two forms (01, "Lines at the planning desk"; 02, #107).
-- Holds: `short_form`, `long_form`, `form_of`, `form_in`, `head_length`; `Head`, `head_in`, the head of a line, and `setting_in`, `blocks_in`, `symbols_in`;
-- `head_text`, a head written out; `IsForm`, `IsHead`, `HeadRead`, `HeadsApart`; `head_samples`.
use Rattle.std.specs.Prelude.{◌≡◌, refl, ◌&&◌, List, [], ◌∷◌, ◌++◌, map, ℕ, ◌+◌, ◌-◌, ◌≤◌, T as Passes, leb, get_or, take, drop}
use Rattle.algebra.specs.Ops.{pick}
use Rattle.code.specs.Settings.{is_setting}
use Rattle.question.specs.Questions.{most_blocks}
use Rattle.line.specs.declared.head.HeadForm.{HeadForm}
use Rattle.line.specs.Characters.{digit_of, character_of, hex, number_from, number_in}

-- "One digit for the setting, three for T"; "lines beginning 1 to 5 keep their limit 512" (02, #107).
abbrev pub short_form : HeadForm
short_form = record { above = 0; digits = 3; most = 512 }

-- "A line beginning a, b, c, d or e names settings 1 to 5 and carries four digits of T, 1 to 4,096" (02, #107).
abbrev pub long_form : HeadForm
long_form = record { above = 9; digits = 4; most = most_blocks }

-- The form of a head, by the value of its first digit: a to e have 10 to 14. Whatever else a line begins with, its head is a short one.
abbrev pub form_of : ℕ → HeadForm
form_of digit = pick (leb 10 digit && leb digit 14) long_form short_form

abbrev pub form_in : List ℕ → HeadForm
form_in line = form_of (digit_of (get_or line 0 0))

-- How many characters a head of this form has.
abbrev pub head_length : HeadForm → ℕ
head_length form = 1 + form.digits

-- A head: its form, the setting's number, and T.
pub record Head : Type 0 where
  pub form : HeadForm
  pub setting : ℕ
  pub blocks : ℕ

-- The head of a line, whatever characters it has.
abbrev pub head_in : List ℕ → Head
head_in line =
    record {
      form = form_in line;
      setting = digit_of (get_or line 0 0) - (form_in line).above;
      blocks = number_in (take (form_in line).digits (drop 1 line));
    }

abbrev pub setting_in : List ℕ → ℕ
setting_in line = (head_in line).setting

abbrev pub blocks_in : List ℕ → ℕ
blocks_in line = (head_in line).blocks

-- ".. then one a symbol for T+m blocks": what the characters behind the head stand for.
abbrev pub symbols_in : List ℕ → List ℕ
symbols_in line = map digit_of (drop (head_length (form_in line)) line)

-- A head written out.
abbrev pub head_text : Head → List ℕ
head_text head = hex 1 (head.form.above + head.setting) ++ hex head.form.digits head.blocks

-- There are two forms. A head of either has a setting and a T within its form's limit.
pub data IsForm : HeadForm → Type 0 where
  is_short : IsForm short_form
  is_long : IsForm long_form

pub record IsHead (head : Head) : Type 0 where
  pub form : IsForm head.form
  pub setting : Passes (is_setting head.setting)
  pub blocks : head.blocks ≤ head.form.most

-- "Shown for either head: reading a line made from a setting and a T within that head's limit finds that setting and T" (02, #107), its form and, behind it,
-- whatever symbols it was made with (`head_read`, proofs/Heads) ..
abbrev pub HeadRead : Type 0
HeadRead = (head : Head) (symbols : List ℕ) → IsHead head
    → (head_in (head_text head ++ symbols) ≡ head) × (symbols_in (head_text head ++ symbols) ≡ map digit_of symbols)

-- .. so no line is made in two ways, neither from heads of both forms nor from two heads of one (`heads_apart`).
abbrev pub HeadsApart : Type 0
HeadsApart = (head other : Head) (symbols other_symbols : List ℕ) → IsHead head → IsHead other
    → head_text head ++ symbols ≡ head_text other ++ other_symbols → (head ≡ other) × (symbols ≡ other_symbols)

-- Examples, computed: setting 3 and T = 512 in both forms, and T = 4,096; "a1000", "e0fff" and "1001" are read, and of a line without a head what it begins with.
abbrev head : HeadForm → ℕ → ℕ → Head
head form setting blocks = record { form = form; setting = setting; blocks = blocks }

pub head_samples : (head_text (head short_form 3 512) ≡ map character_of (3 ∷ 2 ∷ 0 ∷ 0 ∷ []))
    × (head_text (head long_form 3 512) ≡ map character_of (12 ∷ 0 ∷ 2 ∷ 0 ∷ 0 ∷ []))
    × (head_text (head long_form 1 4096) ≡ map character_of (10 ∷ 1 ∷ 0 ∷ 0 ∷ 0 ∷ []))
    × (head_in (map character_of (10 ∷ 1 ∷ 0 ∷ 0 ∷ 0 ∷ [])) ≡ head long_form 1 4096)
    × (head_in (map character_of (14 ∷ 0 ∷ 15 ∷ 15 ∷ 15 ∷ [])) ≡ head long_form 5 4095)
    × (head_in (map character_of (1 ∷ 0 ∷ 0 ∷ 1 ∷ [])) ≡ head short_form 1 1)
    × (head_in (map character_of (15 ∷ 0 ∷ 0 ∷ 0 ∷ 1 ∷ [])) ≡ head short_form 15 0)
    × (head_in [] ≡ head short_form 16 0)
unfolding digit_of character_of hex number_from
head_samples = (refl, refl, refl, refl, refl, refl, refl, refl)
