use Rattle.std.proofs.Common.{◌≡◌, All, length, take}
use Rattle.std.specs.List.{AllZip}
use Rattle.pc_presentation.specs.Tailed.{rowed_presentation, IsElement}
use Rattle.pc_presentation.specs.Scratch.{IsScratch}
use Rattle.p_cover.specs.Lifted.{IsInverse}
use Rattle.epimorphism.proofs.along.invert_all.Given as goal

abbrev pub invariant-loop-i : goal.invariant-loop-i
invariant-loop-i g l =
    IsScratch l.pcp l.s
    × All (IsElement l.pcp) l.out
    × (length l.out ≡ length l.elements)
    × AllZip (IsInverse l.pcp (g.C.Collect.meaning (rowed_presentation l.pcp))) (take l.i l.elements) (take l.i l.out)
