use Rattle.std.proofs.Common.{◌≤◌, length}
use Rattle.pq_base.specs.Limits.{max_rank}
use Rattle.pq_bench.proofs.unitriangular.add_diagonal.Given as goal

abbrev pub invariant-loop-row : goal.invariant-loop-row
invariant-loop-row l = length l.places.items ≤ max_rank
