-- `desk::lines::Desk::answer_lines`: the text was read but for `rest`.
use mathlib.Core.Path.{sym, ap, ◌∙◌}
use Prim.Native.Nat.{◌+◌, ◌-◌}
use native.Mathlib.Omega.{arith}
use borrow.Author.Rules.{rules}
use lib.ListN.{length, drop, length-take}
use Rattle.desk.specs.declared.lines.TheConstants.{LINE}
use Rattle.desk.proofs.Texts.{kept_few, found, reached_none, reached_ended, reached_all}
use Rattle.desk.proofs.lines.Desk.answer_lines.Goals as goal

pub loop-end-init : goal.loop-end-init
loop-end-init g c = (
  omega (arith, ap length c.requires.empty),
  λ begun K. reached_none LINE begun c.args.text.now c.args.self.now.line c.args.self.now.output K c.requires.empty,
)

pub answer-requires : goal.answer-requires
answer-requires g c =
    let l = c.loop-end in
    let rest = l.rest.now in
    omega (
      arith,
      l.invariant.0,
      kept_few LINE c.in-Some.end l.self.line rest c.append.new.self c.append.ensures,
      (found rest c.in-Some.end (sym c.newline_in.ensures ∙ c.in-Some.is)).1,
    )

pub loop-end-smaller : goal.loop-end-smaller
loop-end-smaller g c =
    let rest = c.loop-end.rest.now in
    let end = c.in-Some.end in
    omega (
      arith,
      length-take (length rest - (end + 1)) (drop (end + 1) rest),
      (found rest end (sym c.newline_in.ensures ∙ c.in-Some.is)).1,
    )

pub loop-end-preserved : goal.loop-end-preserved
loop-end-preserved g c =
    let l = c.loop-end in
    let rest = l.rest.now in
    let end = c.in-Some.end in
    let there = sym c.newline_in.ensures ∙ c.in-Some.is in
    let done = c.answer in (
      omega (
        arith,
        l.invariant.0,
        kept_few LINE end l.self.line rest c.append.new.self c.append.ensures,
        (found rest end there).1,
        done.ensures.written.room,
        ap length done.ensures.kept,
        length-take (length rest - (end + 1)) (drop (end + 1) rest),
      ),
      λ begun K. reached_ended LINE (omega arith) begun c.args.text.now l.self.line rest l.self.output done.new.self.output end (l.invariant.1 begun K) there
          c.append.new.self done.new.self.line c.append.ensures done.ensures.written done.ensures.kept,
    )

pub returns : goal.returns
returns g c =
    let l = c.loop-end in
    λ begun K. reached_all LINE begun c.args.text.now l.self.line l.rest.now l.self.output _ c.append-2.new.self (l.invariant.1 begun K)
    (sym c.newline_in.ensures ∙ c.in_default.is) (search rules) c.append-2.ensures
