use Rattle.std.proofs.Common.{◌≡◌, ◌++◌}
use Rattle.pc_presentation.specs.Scratch.{IsScratch}
use Rattle.pc_presentation.specs.Tailed.{rowed_presentation}
use Rattle.p_cover.specs.Covers.{cover_presentation}
use Rattle.epimorphism.specs.Rooms.{IsWork}
use Rattle.tower.specs.StepRows.{AreOver, HaveTakenMore}
use Rattle.tower.proofs.rows.Rows.insert_relators.Given as goal

-- the rows of the relators so far were taken
abbrev pub invariant-loop-source : goal.invariant-loop-source
invariant-loop-source g l =
    IsScratch (cover_presentation l.fn.cover) l.s
    × IsWork l.fn.cover l.work
    × (l.yielded ++ l.source-iterator.rest.items ≡ l.fn.sources.items)
    × AreOver l.fn.cover l.self
    × HaveTakenMore l.fn.pres l.fn.cover (g.C.Collect.meaning (rowed_presentation (cover_presentation l.fn.cover))) l.yielded l.fn.self
    l.self
