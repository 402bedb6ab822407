use Rattle.std.proofs.Common.{◌≡◌, ◌<◌, ℕ}
use Rattle.fp_rows.specs.Row.{at_column}
use Rattle.fp_rows.proofs.row.Row.last_nonzero.Given as goal

abbrev pub invariant-loop-column : goal.invariant-loop-column
invariant-loop-column l = (d : ℕ) → l.column < d → at_column l.self.entries d ≡ 0
