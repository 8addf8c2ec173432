-- What the display promises (01: "a call returns window j as that part of the caller's own reception"). Holds: `window_of`.
use Rattle.std.specs.Prelude.{List, [], ℕ, ◌*◌, eqb, length, take, drop}
use Rattle.algebra.specs.Ops.{pick}
use Rattle.code.specs.Settings.{setting_of}
use Rattle.code.specs.Windows.{window_length}
use Rattle.question.specs.Questions.{first_no, display_questions}

-- "starting at symbol j × n, (m+1) × n long"; "A refused display is an empty part".
abbrev pub window_of : ℕ → List ℕ → ℕ → List ℕ
window_of number reception j =
    pick (eqb (first_no (display_questions number (length reception) j)).number 0)
    (take (window_length (setting_of number)) (drop (j * (setting_of number).n) reception))
    []
