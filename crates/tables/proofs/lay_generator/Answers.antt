-- `lay_generator`: the first a rows stand in their places.
use mathlib.Core.Path.{◌≡◌, subst, ◌∙◌}
use Prim.Native.Nat.{ℕ, ◌+◌, ◌-◌, ◌*◌, ◌≤◌}
use native.Mathlib.Nat.{mul-le-mul_right}
use native.Mathlib.Omega.{arith}
use lib.ListN.{length, drop}
use lib.Seq.{length-take-le}
use Rattle.std.proofs.Common.{length-drop}
use Rattle.tables.proofs.Filled.{Filled, filled_long, filled_more, laid_out}
use Rattle.tables.proofs.lay_generator.Goals as goal

pub loop-a-preserved : goal.loop-a-preserved
loop-a-preserved g c =
    let n : ℕ = g.row.N in
    let a : ℕ = c.loop-a.a in
    let row = c.copy_from_slice.new.self in
    let size : ℕ = a * n + n - a * n in
    let plain : size ≡ n = omega arith in
    let next : a + 1 ≤ g.row.K * g.row.POWERS = omega arith in
    let room : a * n + size ≤ length c.loop-a.area = omega (arith, mul-le-mul_right n next) in
    let long : length row ≡ n =
    c.copy_from_slice.ensures.len ∙ length-take-le size (drop (a * n) c.loop-a.area) (omega (arith, length-drop (a * n) c.loop-a.area)) ∙ plain in (
      filled_long n g.row.POWERS c.args.generator.now a size c.loop-a.area row c.loop-a.invariant.1 c.copy_from_slice.ensures.after long (omega arith) room
          ∙ c.loop-a.invariant.0,
      filled_more n g.row.POWERS c.args.generator.now a size c.loop-a.area row c.loop-a.invariant.1 c.copy_from_slice.ensures.after long (omega arith) room,
    )

pub returns-clause-laid : goal.returns-clause-laid
returns-clause-laid g c =
    let all : c.loop-a.a ≡ g.row.K * g.row.POWERS = omega arith in
    laid_out g.row.N g.row.POWERS c.args.generator.now g.row.K c.loop-a.area
    (subst (λ (a : ℕ). Filled g.row.N g.row.POWERS c.args.generator.now a c.loop-a.area) all c.loop-a.invariant.1)
