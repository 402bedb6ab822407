use Rattle.std.proofs.Common.{◌≡◌}
use Rattle.cover_quotient.specs.Kept.{kept_columns}
use Rattle.class_step.proofs.kept.kept_columns.Given as goal

abbrev pub invariant-loop-c : goal.invariant-loop-c
invariant-loop-c l = l.kept.items ≡ kept_columns l.c l.basis.rows
