-- What the desk's functions promise one another. Holds: `Behind`.
use Rattle.std.specs.Prelude.{◌≡◌, List, [], ◌∷◌, ◌++◌, ℕ, ◌+◌, ◌≤◌, length}
use Rattle.line.specs.Answering.{Answers}
use Rattle.desk.specs.Texts.{newline}
use Rattle.desk.specs.Turns.{output_room}

-- A line's answer and its newline came behind the output that waited.
pub record Behind (line before after : List ℕ) : Type 0 where
  pub text : List ℕ
  pub answers : Answers line text
  pub is : after ≡ before ++ (text ++ newline ∷ [])
  pub room : length after ≤ length before + output_room (length line) 0
