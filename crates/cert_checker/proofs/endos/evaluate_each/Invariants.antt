use Rattle.std.proofs.Common.{◌≡◌, All, length, take}
use Rattle.pc_presentation.specs.Collection.{plain_push}
use Rattle.pc_presentation.specs.Tailed.{rowed_presentation, IsElement}
use Rattle.pc_presentation.specs.Scratch.{IsScratch}
use Rattle.epimorphism.specs.Rooms.{value_elements}
use Rattle.cert_checker.proofs.endos.evaluate_each.Given as goal

abbrev pub invariant-loop-i : goal.invariant-loop-i
invariant-loop-i l =
    IsScratch l.pcp l.s
    × All (IsElement l.pcp) l.values
    × (length l.values ≡ length l.words)
    × (take l.i l.values ≡ take l.i (value_elements l.pcp (plain_push (rowed_presentation l.pcp)) l.images l.inverses l.words))
