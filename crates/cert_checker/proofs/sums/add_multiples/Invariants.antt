use Rattle.cert_checker.proofs.summing.SumSteps.{IsSumSoFar}
use Rattle.cert_checker.proofs.sums.add_multiples.Given as goal

-- the sum of the pairs so far
abbrev pub invariant-loop-pair : goal.invariant-loop-pair
invariant-loop-pair l = IsSumSoFar l.initial.sum l.sum l.rows l.pairs l.pair-index
