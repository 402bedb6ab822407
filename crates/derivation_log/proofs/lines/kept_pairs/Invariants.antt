use Rattle.std.proofs.Common.{◌≡◌}
use Rattle.pq_base.specs.Canonical.{numbers_from}
use Rattle.derivation_log.specs.HeldLines.{pairs_of, kept_coefficient}
use Rattle.derivation_log.proofs.lines.kept_pairs.Given as goal

-- the pairs of the columns so far
abbrev pub invariant-loop-c : goal.invariant-loop-c
invariant-loop-c l = l.pairs.items ≡ pairs_of (kept_coefficient l.row.prime l.pivot l.row.entries) (numbers_from 1 l.c)
