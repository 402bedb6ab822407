use Rattle.std.proofs.Common.{◌≢◌, ◌<◌, ℕ}
use Rattle.fp_echelon.specs.Slots.{pivot_at}
use Rattle.fp_echelon.proofs.elimination.place_of.Given as goal

abbrev pub invariant-loop-i : goal.invariant-loop-i
invariant-loop-i l = (k : ℕ) → k < l.i → pivot_at l.entries k ≢ l.column
