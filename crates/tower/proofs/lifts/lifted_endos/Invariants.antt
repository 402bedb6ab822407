use Rattle.pc_presentation.specs.Scratch.{IsScratch}
use Rattle.p_cover.specs.Covers.{cover_presentation}
use Rattle.tower.proofs.GivenRows.{AreLiftsSoFar}
use Rattle.tower.proofs.lifts.lifted_endos.Given as goal

-- the matrices of the endomorphisms so far were found
abbrev pub invariant-loop-e : goal.invariant-loop-e
invariant-loop-e g l = IsScratch (cover_presentation l.fn.cover) l.s × AreLiftsSoFar l.fn.cover l.fn.pres.endos l.e l.matrices.items
