use Rattle.std.proofs.Common.{length}
use Rattle.lpres_reader.specs.Values.{FactorsRunOn}
use Rattle.lpres_reader.proofs.plain.with_plain_factors.Given as goal

abbrev pub invariant-loop-place : goal.invariant-loop-place
invariant-loop-place l = FactorsRunOn l.fn.names.keys l.fn.line l.rest l.fn.before l.word

abbrev pub decreases-loop-place : goal.decreases-loop-place
decreases-loop-place l = length l.rest
