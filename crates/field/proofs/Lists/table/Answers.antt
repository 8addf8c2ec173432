-- `Lists::table` meets its contract: each row is what its closure gives.
use mathlib.Core.Path.{◌≡◌, refl, sym, ◌∙◌, subst}
use mathlib.Core.List.{List, [], ◌++◌}
use Prim.Native.Nat.{ℕ, ◌<◌, ◌≤◌}
use native.Mathlib.Omega.{arith}
use lib.ListN.{length, get_or, set, drop, length-drop}
use Rattle.std.proofs.Common.{rules}
use Rattle.std.proofs.lemmas.List.{length-append, get_or_append_left, get_or-set_same, get_or-set_other}
use Rattle.field.specs.parts.Products.{MultiplesOf, InversesOf, ProductsOf}
use Rattle.field.proofs.Lists.table.Goals as goal

-- The rows of multiples before the others, and the last row.
table_of : (q : ℕ) (rows others : List (List ℕ)) (last : List ℕ) → q ≤ 16 → length rows ≡ q → length others ≡ 17
    → ((i : ℕ) → i < q → MultiplesOf q i (get_or rows i [])) → InversesOf q last → ProductsOf q (set (rows ++ drop q others) 16 last)
table_of q rows others last few e f multiples inverses =
    let all = rows ++ drop q others in
    let long : 16 < length all = omega (arith, length-append rows (drop q others), length-drop q others) in
    record {
      row = λ i h.
          subst (MultiplesOf q i) (sym (get_or-set_other all 16 i last [] (λ same. omega (arith, same)) ∙ get_or_append_left rows (drop q others) [] i (omega arith)))
          (multiples i h);
      inverses = subst (InversesOf q) (sym (get_or-set_same all 16 last [] long)) inverses;
    }

pub loop-a-preserved : goal.loop-a-preserved
loop-a-preserved c =
    let multiples : MultiplesOf c.args.self.now.q c.loop-a.a-counter c.row.result = record { product = λ b h. let given = c.row.ensures b h in search rules } in
    search rules

pub returns : goal.returns
returns c =
    let inverses : InversesOf c.args.self.now.q c.row-2.result = record { inverse = λ b h. let given = c.row-2.ensures b h in search rules } in
    table_of _ _ _ _ (search rules) (search rules) refl (λ i h. search rules) inverses
