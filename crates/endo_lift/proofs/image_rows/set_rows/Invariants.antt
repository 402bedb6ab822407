use Rattle.pc_presentation.specs.Scratch.{IsScratch}
use Rattle.p_cover.specs.Covers.{cover_presentation}
use Rattle.endo_lift.specs.Lifts.{IsMatrixOver}
use Rattle.endo_lift.specs.Values.{IsRoom, AreValueRows}
use Rattle.endo_lift.proofs.image_rows.set_rows.Given as goal

abbrev pub invariant-loop-t : goal.invariant-loop-t
invariant-loop-t g l =
    IsScratch (cover_presentation l.cover) l.s × IsRoom (cover_presentation l.cover) l.room × IsMatrixOver l.cover l.matrix
    × AreValueRows l.cover l.endo l.t l.matrix.rows
