use Rattle.std.proofs.Common.{◌≡◌, ◌≤◌, ◌++◌, ℕ, length, replicate}
use Rattle.pq_base.specs.Prime.{prime_value}
use Rattle.fp_echelon.specs.Slots.{new_slot}
use Rattle.fp_echelon.proofs.elimination.add_entries.Given as goal

abbrev pub invariant-loop-count : goal.invariant-loop-count
invariant-loop-count l = record {
  more : (j : ℕ) × (l.entries.items ≡ l.initial.entries.items ++ replicate j (new_slot (prime_value l.prime) l.width l.room));
  long : length l.entries.items ≡ l._count;
}
