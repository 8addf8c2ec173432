-- `Lists::inverse` meets its contract: in each branch what is returned is the inverse, by law.
use mathlib.Core.Path.{refl}
use Prim.Native.Nat.{ℕ, ◌≤◌, ◌<◌}
use native.Mathlib.Omega.{arith}
use Rattle.field.specs.declared.Lists.{Lists}
use Rattle.field.specs.Fields.{ops_of}
use Rattle.field.specs.parts.Sequences.{at}
use Rattle.field.proofs.ByExponents.{Completed, own_inverse, inverse_completed}
use Rattle.field.proofs.Lists.inverse.Goals as goal

-- Where the inverse stands, by the exponent of a.
completed : (l : Lists) (a : ℕ) → a < l.q → 2 ≤ a → Completed l.q l.powers.now (at l.exponents.now a) ((ops_of l.q).inv a)
completed l a below high = inverse_completed l.q l.good l.powers.now l.exponents.now l.lists a below high _ refl

pub returns-then-a-lt2 : goal.returns-then-a-lt2
returns-then-a-lt2 c = own_inverse _ c.args.self.now.good _ c.requires c.if-a-lt2.true

pub overflow_sub-result-2 : goal.overflow_sub-result-2
overflow_sub-result-2 c = omega (arith, (completed c.args.self.now _ c.requires c.if-a-lt2.false).below)

pub bounds-self-self : goal.bounds-self-self
bounds-self-self c =
    let l = c.args.self.now in
    let exponent = completed l _ c.requires c.if-a-lt2.false in
    omega (arith, exponent.positive, exponent.below, l.lists.powers_count)

pub returns : goal.returns
returns c = (completed c.args.self.now _ c.requires c.if-a-lt2.false).listed
