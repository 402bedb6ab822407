use Rattle.std.proofs.Common.{◌≡◌, ◌<◌, ℕ}
use Rattle.pq_base.specs.Answer.{definition_at}
use Rattle.cert_checker.proofs.equal.definitions_are_equal.Given as goal

abbrev pub invariant-loop-k : goal.invariant-loop-k
invariant-loop-k l =
    (k : ℕ) → k < l.k → definition_at l.left k ≡ definition_at l.right k
