-- `Lists::product` meets its contract: in each branch what is returned is the product, by law.
use mathlib.Core.Path.{◌≡◌, refl}
use Prim.Native.Nat.{ℕ, ◌+◌, ◌<◌}
use native.Mathlib.Omega.{arith}
use Rattle.field.specs.declared.Lists.{Lists}
use Rattle.field.specs.Fields.{ops_of}
use Rattle.field.specs.parts.Sequences.{at}
use Rattle.field.proofs.ByExponents.{Summed, product_of_zero, product_by_zero, product_summed}
use Rattle.field.proofs.Lists.product.Goals as goal

-- Where the product stands, by the sum of the exponents.
summed : (l : Lists) (a b : ℕ) → (a < l.q) × (b < l.q) → (a ≡ 0 → ⊥) → (b ≡ 0 → ⊥)
    → Summed l.q l.powers.now (at l.exponents.now a + at l.exponents.now b) ((ops_of l.q).mul a b)
summed l a b below za zb = product_summed l.q l.good l.powers.now l.exponents.now l.lists a b below.0 below.1 za zb _ refl

pub returns-then-a-eq0 : goal.returns-then-a-eq0
returns-then-a-eq0 c = let p = c.requires in product_of_zero _ c.args.self.now.good _ _ p.0 p.1 c.if-a-eq0.true

pub returns-then-b-eq0 : goal.returns-then-b-eq0
returns-then-b-eq0 c = let p = c.requires in product_by_zero _ c.args.self.now.good _ _ p.0 p.1 c.if-b-eq0.true

pub bounds-self-sum-else-sum-n : goal.bounds-self-sum-else-sum-n
bounds-self-sum-else-sum-n c =
    let l = c.args.self.now in
    omega (arith, (summed l _ _ c.requires c.if-a-eq0.false c.if-b-eq0.false).below, l.lists.powers_count)

pub returns-then-sum-n : goal.returns-then-sum-n
returns-then-sum-n c = (summed c.args.self.now _ _ c.requires c.if-a-eq0.false c.if-b-eq0.false).short c.if-sum-n.true

pub returns-else-sum-n : goal.returns-else-sum-n
returns-else-sum-n c = (summed c.args.self.now _ _ c.requires c.if-a-eq0.false c.if-b-eq0.false).long c.if-sum-n.false
