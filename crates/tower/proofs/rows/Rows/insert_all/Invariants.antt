use Rattle.std.proofs.Common.{◌≡◌, ◌++◌, map}
use Rattle.pq_base.specs.LPresentation.{LPresentation}
use Rattle.pc_presentation.specs.Scratch.{IsScratch}
use Rattle.pc_presentation.specs.Tailed.{rowed_presentation}
use Rattle.p_cover.specs.Covers.{cover_presentation}
use Rattle.consistency.specs.AllOverlaps.{all_overlaps}
use Rattle.derivation_log.specs.declared.source.RowSource.TheVariants.{Test}
use Rattle.tower.specs.StepRows.{AreOver, HaveTakenMore}
use Rattle.tower.proofs.rows.Rows.insert_all.Given as goal

-- the rows of the overlaps so far were taken
abbrev pub invariant-loop-test : goal.invariant-loop-test
invariant-loop-test g l =
    (goal.iterator-loop-test g).can_next l.test-iterator
    × (goal.iterator-loop-test g).is_finite l.test-iterator
    × IsScratch (cover_presentation l.fn.cover) l.s
    × (l.yielded ++ l.test-iterator ≡ all_overlaps l.fn.cover.answer.presentation.rank)
    × AreOver l.fn.cover l.self
    × ((L : LPresentation)
    → HaveTakenMore L l.fn.cover (g.C.Collect.meaning (rowed_presentation (cover_presentation l.fn.cover)))
    (map Test l.yielded) l.fn.self l.self)
