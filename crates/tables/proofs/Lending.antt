-- What the functions of a setting are lent, and room for it.
-- Holds: `ready_of`, `narrow_of`.
use mathlib.Core.Path.{◌≡◌, sym, subst}
use mathlib.Core.List.{List}
use Prim.Native.Nat.{ℕ}
use lib.Dec.{T as Passes}
use Rattle.field.specs.parts.Products.{Products, ProductsOf}
use Rattle.code.specs.declared.Setting.{Setting}
use Rattle.code.specs.Settings.{is_setting, setting_of}
use Rattle.code.proofs.Settings.{sound_of, largest_of}
use Rattle.tables.specs.parts.Rows.{rows_length, Narrow, RowsOf, Ready}

pub ready_of : (s : ℕ) (p : Setting) → Passes (is_setting s) → p ≡ setting_of s → (products : Products) (rows : List ℕ) → ProductsOf p.q products
    → RowsOf (setting_of s) rows
    → Ready p products rows
ready_of s p t e products rows lent R =
    subst (λ (x : Setting). Ready x products rows) (sym e)
    (record { sound = sound_of s t; products = subst (λ (x : Setting). ProductsOf x.q products) e lent; rows = R })

pub narrow_of : (s : ℕ) (p : Setting) → Passes (is_setting s) → p ≡ setting_of s → Narrow p
narrow_of s p t e = subst Narrow (sym e) (record { rows = largest_of rows_length s t; block = largest_of (λ x. x.n) s t })
