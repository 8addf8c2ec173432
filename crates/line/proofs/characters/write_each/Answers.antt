-- `line::characters::write_each`: the first i bytes are written.
use mathlib.Core.Path.{sym, subst}
use mathlib.Core.List.{List, [], ◌∷◌, ◌++◌}
use Prim.Native.Nat.{ℕ, ◌+◌, ◌<◌}
use native.Mathlib.Omega.{arith}
use lib.ListN.{length, get_or, take, set}
use Rattle.std.specs.List.{AllZip}
use Rattle.std.proofs.lemmas.List.{take_more, take_more_set}
use Rattle.std.proofs.lemmas.List.Elements.{AllZip-push}
use Rattle.line.proofs.characters.write_each.Goals as goal

pub loop-i-preserved : goal.loop-i-preserved
loop-i-preserved g c =
    let bytes = c.args.bytes.now in
    let area = c.loop-i.area in
    let i = c.loop-i.i in
    let gives : ℕ → ℕ → Type 0 = λ byte made. g.F.Fn.post c.args.of (byte, tt {0}) made in
    let read : i < length bytes = omega (arith, c.loop-i-test.true, c.requires.same) in
    let stored : i < length area = omega (arith, c.loop-i-test.true, c.loop-i.auto.area) in
    subst (λ (t : List ℕ). AllZip gives t (take (i + 1) (set area i c.of.result))) (sym (take_more bytes i 0 read))
    (subst (λ (t : List ℕ). AllZip gives (take i bytes ++ get_or bytes i 0 ∷ []) t) (sym (take_more_set area i c.of.result stored))
    (AllZip-push gives (take i bytes) (take i area) (get_or bytes i 0) c.of.result c.loop-i.invariant c.of.ensures))
