use Rattle.std.proofs.Common.{take}
use Rattle.pc_presentation.specs.Tailed.{rowed_presentation}
use Rattle.pc_presentation.specs.Scratch.{IsScratch}
use Rattle.pc_presentation.specs.ImageElements.{AreImageElements}
use Rattle.p_cover.specs.Covers.{cover_presentation}
use Rattle.p_cover.specs.ImagesAlong.{AreCarried}
use Rattle.epimorphism.specs.Rooms.{IsWork}
use Rattle.epimorphism.proofs.along.carry.Given as goal

abbrev pub invariant-loop-i : goal.invariant-loop-i
invariant-loop-i g l =
    let T = cover_presentation l.cover in
    let push = g.C.Collect.meaning (rowed_presentation T) in
    IsScratch T l.s × IsWork l.cover l.work
    × AreImageElements T push l.work.first.elements l.work.first.inverses
    × AreCarried l.cover push l.pres.endos l.initial.work.first (take l.i l.along) l.work.first
