use Rattle.std.proofs.Common.{◌≡◌}
use Rattle.pq_base.specs.Canonical.{numbers_from}
use Rattle.fp_rows.specs.Row.{at_column}
use Rattle.derivation_log.specs.HeldLines.{pairs_of}
use Rattle.derivation_log.proofs.lines.nonzero_pairs.Given as goal

-- the pairs of the coefficients so far
abbrev pub invariant-loop-k : goal.invariant-loop-k
invariant-loop-k l = l.pairs.items ≡ pairs_of (at_column l.coefficients) (numbers_from 1 l.k)
