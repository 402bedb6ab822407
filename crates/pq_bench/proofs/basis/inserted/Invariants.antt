use Rattle.std.proofs.Common.{◌≡◌, length}
use Rattle.pq_bench.proofs.basis.inserted.Given as goal

abbrev pub invariant-loop : goal.invariant-loop
invariant-loop l = (l.basis.prime ≡ 3) × (l.basis.width ≡ l.count) × (l.row.prime ≡ 3) × (length l.row.entries ≡ l.count)
