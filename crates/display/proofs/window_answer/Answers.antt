-- `display::window_answer`: the display's questions.
use Rattle.display.proofs.window_answer.Goals as goal

pub returns : goal.returns
returns c = c.in_ok-display_questions.ensures.answer
