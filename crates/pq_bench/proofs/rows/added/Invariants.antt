use Rattle.std.proofs.Common.{◌≡◌, length}
use Rattle.pq_bench.proofs.rows.added.Given as goal

abbrev pub invariant-loop-n : goal.invariant-loop-n
invariant-loop-n l = (l.row.prime ≡ 7) × (length l.row.entries ≡ 5082)
