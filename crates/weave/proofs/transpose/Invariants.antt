-- `weave::transpose`: the first c columns stand one after another.
use Rattle.area.proofs.Parts.{PartsTo}
use Rattle.weave.specs.parts.Columns.{column_of}
use Rattle.weave.proofs.transpose.Given as goal

abbrev pub invariant-loop-c : goal.invariant-loop-c
invariant-loop-c l = PartsTo l.rows (λ g. column_of l.columns g l.incoming) l.initial.out l.c l.out
