use Rattle.cert_checker.proofs.summing.SumSteps.{IsRaisedSoFar}
use Rattle.cert_checker.proofs.sums.add_entries.Given as goal

-- the entries of the pairs so far
abbrev pub invariant-loop-pair : goal.invariant-loop-pair
invariant-loop-pair l = IsRaisedSoFar l.initial.row l.row l.pairs l.pair-index
