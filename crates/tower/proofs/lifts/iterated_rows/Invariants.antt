use Rattle.pc_presentation.specs.Scratch.{IsScratch}
use Rattle.p_cover.specs.Covers.{cover_presentation}
use Rattle.tower.proofs.GivenRows.{AreGivenSoFar}
use Rattle.tower.proofs.lifts.iterated_rows.Given as goal

-- the rows of the relators so far were found
abbrev pub invariant-loop-word : goal.invariant-loop-word
invariant-loop-word g l = IsScratch (cover_presentation l.fn.cover) l.s × AreGivenSoFar l.fn.pres l.fn.cover l.word-index l.rows.items
