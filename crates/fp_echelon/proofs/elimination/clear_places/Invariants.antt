use Rattle.std.proofs.Common.{◌≡◌, ◌++◌, map, take, drop}
use Rattle.fp_echelon.specs.Slots.{placed_slot}
use Rattle.fp_echelon.proofs.elimination.clear_places.Given as goal

abbrev pub invariant-loop-entry : goal.invariant-loop-entry
invariant-loop-entry l =
    l.entries ≡ map (placed_slot l.place) (take l.entry-index l.initial.entries) ++ drop l.entry-index l.initial.entries
