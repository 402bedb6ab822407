use Rattle.std.proofs.Common.{◌≡◌, length}
use Rattle.pq_base.specs.Prime.{prime_value}
use Rattle.worked_rows.proofs.row_cases.row_of.Given as goal

abbrev pub invariant-loop-entry : goal.invariant-loop-entry
invariant-loop-entry l = record {
  prime : l.row.prime ≡ prime_value l.fn.prime;
  width : length l.row.entries ≡ l.width;
}
