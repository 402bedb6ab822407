use Rattle.std.proofs.Common.{◌≤◌, length}
use Rattle.pq_base.specs.Limits.{max_rank}
use Rattle.pq_bench.proofs.unitriangular.places.Given as goal

abbrev pub invariant-loop-diagonal : goal.invariant-loop-diagonal
invariant-loop-diagonal l = length l.places.items ≤ max_rank
