-- An information block from its part of the spectrum. The block of n symbols whose last k values of the spectrum are these, and whose values before are
-- zero, is X × G_0; its last k symbols give X from the last symbol on, since the rows of G_0 end in 1.
-- Holds: `ending`, `Recovered`.
use Rattle.std.specs.Prelude.{◌≡◌, ℕ, suc, ◌-◌, ◌<◌}
use Rattle.algebra.specs.Sum.{power}
use Rattle.algebra.specs.parts.Values.{falling}
use Rattle.code.specs.Code.{Code}
use Rattle.code.specs.Generator.{times_g}

-- The symbol j places before the end of the block, by the inverse transform.
unfoldable pub ending : {F : Type 0} → Code F → (ℕ → F) → ℕ → F
ending c v j = c.ops.neg (falling c.ops c.k v (power c.ops (c.ops.inv c.α) j))

-- The last `count` symbols of x × G_0 are those of the block.
pub record Recovered {F : Type 0} (c : Code F) (v : ℕ → F) (count : ℕ) (x : ℕ → F) : Type 0 where
  pub symbol : (j : ℕ) → j < count → times_g c x 0 (c.n - suc j) ≡ ending c v (suc j)
