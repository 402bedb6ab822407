use Rattle.std.proofs.Common.{take}
use Rattle.std.specs.List.{AllZip}
use Rattle.pc_presentation.specs.Tailed.{rowed_presentation}
use Rattle.pc_presentation.specs.Scratch.{IsScratch}
use Rattle.p_cover.specs.Lifted.{IsInverse}
use Rattle.p_cover.proofs.images.inverses.Given as goal

abbrev pub invariant-loop-element : goal.invariant-loop-element
invariant-loop-element g l =
    IsScratch l.pcp l.s
    × AllZip (IsInverse l.pcp (g.C.Collect.meaning (rowed_presentation l.pcp))) (take l.element-index l.elements) l.inverses.items
