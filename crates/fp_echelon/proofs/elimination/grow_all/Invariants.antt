use Rattle.std.proofs.Common.{◌≡◌}
use Rattle.fp_echelon.specs.Slots.{grown_front}
use Rattle.fp_echelon.proofs.elimination.grow_all.Given as goal

abbrev pub invariant-loop-entry : goal.invariant-loop-entry
invariant-loop-entry l = l.entries ≡ grown_front l.room l.entry-index l.initial.entries
