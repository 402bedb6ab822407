use Rattle.std.proofs.Common.{◌≡◌, All, length, take}
use Rattle.pc_presentation.specs.Tailed.{rowed_presentation, IsElement}
use Rattle.pc_presentation.specs.Scratch.{IsScratch}
use Rattle.epimorphism.specs.Rooms.{value_elements}
use Rattle.epimorphism.proofs.along.evaluate_all.Given as goal

abbrev pub invariant-loop-i : goal.invariant-loop-i
invariant-loop-i g l =
    IsScratch l.pcp l.s
    × All (IsElement l.pcp) l.out
    × (length l.out ≡ length l.words)
    × (take l.i l.out
    ≡ take l.i (value_elements l.pcp (g.C.Collect.meaning (rowed_presentation l.pcp)) l.images.elements l.images.inverses l.words))
