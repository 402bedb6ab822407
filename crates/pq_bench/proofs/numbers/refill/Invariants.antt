use Rattle.std.proofs.Common.{◌≡◌, length}
use Rattle.pq_bench.proofs.numbers.refill.Given as goal

abbrev pub invariant-loop-column : goal.invariant-loop-column
invariant-loop-column l = (l.row.prime ≡ l.fn.row.prime) × (length l.row.entries ≡ length l.fn.row.entries)
