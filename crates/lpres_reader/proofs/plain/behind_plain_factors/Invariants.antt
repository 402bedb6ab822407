use Rattle.std.proofs.Common.{length}
use Rattle.lpres_reader.specs.PlainFactors.{GoesPlainly}
use Rattle.lpres_reader.proofs.plain.behind_plain_factors.Given as goal

abbrev pub invariant-loop-after : goal.invariant-loop-after
invariant-loop-after l = GoesPlainly l.fn.names.keys l.fn.line l.rest

abbrev pub decreases-loop-after : goal.decreases-loop-after
decreases-loop-after l = length l.rest
