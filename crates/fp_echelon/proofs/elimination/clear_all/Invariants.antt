use Rattle.std.proofs.Common.{◌≡◌, ◌++◌, map, take, drop}
use Rattle.fp_echelon.specs.Slots.{cleared_slot}
use Rattle.fp_echelon.proofs.elimination.clear_all.Given as goal

abbrev pub invariant-loop-entry : goal.invariant-loop-entry
invariant-loop-entry l =
    l.entries ≡ map (cleared_slot l.count l.other) (take l.entry-index l.initial.entries) ++ drop l.entry-index l.initial.entries
