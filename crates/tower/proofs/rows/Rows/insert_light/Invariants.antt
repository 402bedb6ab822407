use Rattle.std.proofs.Common.{◌≡◌, ◌++◌, map}
use Rattle.pq_base.specs.LPresentation.{LPresentation}
use Rattle.pc_presentation.specs.Scratch.{IsScratch}
use Rattle.pc_presentation.specs.Tailed.{rowed_presentation}
use Rattle.p_cover.specs.Covers.{cover_presentation}
use Rattle.derivation_log.specs.declared.source.RowSource.TheVariants.{Test}
use Rattle.tails_by_weight.specs.LightOverlaps.{light_overlaps}
use Rattle.tower.specs.StepRows.{AreOver, HaveTakenMore}
use Rattle.tower.proofs.rows.Rows.insert_light.Given as goal

-- the rows of the light overlaps so far were taken
abbrev pub invariant-loop-overlap : goal.invariant-loop-overlap
invariant-loop-overlap g l =
    IsScratch (cover_presentation l.fn.cover) l.s
    × (l.yielded ++ l.overlap-iterator.rest.items ≡ light_overlaps l.fn.cover.answer)
    × AreOver l.fn.cover l.self
    × ((L : LPresentation)
    → HaveTakenMore L l.fn.cover (g.C.Collect.meaning (rowed_presentation (cover_presentation l.fn.cover))) (map Test l.yielded) l.fn.self
    l.self)
