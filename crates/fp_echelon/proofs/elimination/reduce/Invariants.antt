use Rattle.std.proofs.Common.{◌≡◌, ℕ, drop, length}
use Rattle.fp_rows.specs.Rows.{IsRow}
use Rattle.fp_echelon.specs.Reduction.{reduce_by}
use Rattle.fp_echelon.specs.Slots.{all_seen}
use Rattle.fp_echelon.proofs.elimination.reduce.Given as goal

abbrev pub invariant-loop-entry : goal.invariant-loop-entry
invariant-loop-entry l = record {
  prime : l.row.prime ≡ l.initial.row.prime;
  width : length l.row.entries ≡ length l.initial.row.entries;
  rest : (n : ℕ) → reduce_by l.initial.row.prime (all_seen n (drop l.entry-index l.entries)) l.row.entries
      ≡ reduce_by l.initial.row.prime (all_seen n l.entries) l.initial.row.entries;
}
