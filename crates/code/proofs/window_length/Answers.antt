-- `code::window_length`: m and n are small.
use Prim.Native.Nat.{◌+◌, ◌≤◌}
use native.Mathlib.Nat.{mul-le-mul_right}
use native.Mathlib.Omega.{arith}
use Rattle.code.proofs.Settings.{sizes}
use Rattle.code.proofs.window_length.Goals as goal

pub overflow_add-result : goal.overflow_add-result
overflow_add-result c = omega (arith, (sizes c.args.p c.requires).memory_most)

pub overflow_mul-result : goal.overflow_mul-result
overflow_mul-result c =
    let p = c.args.p in
    let few : p.m + 1 ≤ 256 = omega (arith, (sizes p c.requires).memory_most) in
    omega (arith, mul-le-mul_right p.n few, (sizes p c.requires).symbols_most)
