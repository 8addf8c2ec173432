-- `desk::text::Text::append`: what there is room for comes behind what is there.
use mathlib.Core.Path.{ap, ◌∙◌}
use mathlib.Core.List.{List, ◌++◌}
use Prim.Native.Nat.{ℕ}
use native.Mathlib.Omega.{arith}
use lib.ListN.{take}
use Rattle.desk.proofs.Texts.{appended}
use Rattle.desk.proofs.text.Text.append.Goals as goal

pub returns : goal.returns
returns g c =
    let t = c.self.inside in
    let part = c.args.part.now in
    appended t.bytes part c.copy_from_slice.new.self t.filled _ g.row.ROOM c.min-kept.result c.self.told c.self.invariant (omega arith) c.copy_from_slice.ensures.after
    c.min-kept.ensures
    ∙ ap (λ (l : List ℕ). take g.row.ROOM (l ++ part)) c.self.view_is
