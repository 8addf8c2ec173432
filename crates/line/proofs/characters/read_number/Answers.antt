-- `line::characters::read_number`: the digits from place i on are left to read.
use mathlib.Core.Path.{◌≡◌}
use Prim.Native.Nat.{◌+◌, ◌*◌, ◌^◌, ◌≤◌}
use native.Mathlib.Nat.{pow-le-pow_right}
use native.Mathlib.Omega.{arith}
use lib.Dec.{lit≤}
use lib.ListN.{get_or, drop}
use Rattle.std.proofs.lemmas.Grind.{pow_more}
use Rattle.std.proofs.lemmas.List.{at_drop_more, at_drop_all}
use Rattle.line.specs.Characters.{digit_of, number_from}
use Rattle.line.proofs.characters.read_number.Goals as goal

pub overflow_mul-number : goal.overflow_mul-number
overflow_mul-number c =
    let few : c.loop-character.character-index ≤ 3 = omega arith in
    let most : 16 ^ c.loop-character.character-index ≤ 4096 = pow-le-pow_right (lit≤ tt) few in
    omega (arith, c.loop-character.invariant.1)

pub loop-character-preserved : goal.loop-character-preserved
unfolding number_from
loop-character-preserved c =
    let high = c.loop-character.number in
    let i = c.loop-character.character-index in
    let digits = c.args.digits.now in
    let next : number_from high (drop i digits) ≡ number_from (high * 16 + digit_of (get_or digits i 0)) (drop (i + 1) digits) =
    at_drop_more (number_from high) digits i 0 c.loop-character-test.true in
    (cc, omega (arith, c.loop-character.invariant.1, pow_more 16 i, c.value.type_inv, c.from.ensures))

pub returns : goal.returns
unfolding number_from
returns c =
    let high = c.loop-character.number in
    let all : number_from high (drop c.loop-character.character-index c.args.digits.now) ≡ high =
    at_drop_all (number_from high) c.args.digits.now c.loop-character.character-index c.loop-character-test.false in
    cc
