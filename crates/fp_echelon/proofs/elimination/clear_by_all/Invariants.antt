use Rattle.std.proofs.Common.{◌≡◌, drop, length}
use Rattle.fp_echelon.specs.Slots.{IsSlot, cleared_by_each}
use Rattle.fp_echelon.proofs.elimination.clear_by_all.Given as goal

abbrev pub invariant-loop-other : goal.invariant-loop-other
invariant-loop-other l = record {
  slot : IsSlot l.initial.entry.prime (length l.initial.entry.row) l.count l.entry;
  rest : cleared_by_each l.count (drop l.other-index l.others) l.entry ≡ cleared_by_each l.count l.others l.initial.entry;
}
