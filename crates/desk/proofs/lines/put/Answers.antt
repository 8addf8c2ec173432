-- `desk::lines::put`: an answer has room, and its newline comes behind it.
use native.Mathlib.Omega.{arith}
use borrow.Author.Rules.{rules}
use Rattle.line.proofs.Frames.{answered_shown}
use Rattle.desk.proofs.Texts.{put_behind}
use Rattle.desk.proofs.lines.put.Goals as goal

pub returns : goal.returns
returns g c =
    let o = c.output.inside in
    let done = c.answer_line-long in
    put_behind c.args.line.now c.args.output.now o.bytes done.new.output c.append.new.self o.filled _ _ done.result g.row.OUTPUT c.output.view_is c.requires
    c.output.invariant c.output.told (omega arith) (omega (arith, c.output.told))
    (answered_shown _ _ _ _ _ _ (search rules) done.ensures) c.append.ensures
