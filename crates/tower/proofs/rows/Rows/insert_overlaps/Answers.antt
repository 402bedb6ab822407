use Rattle.std.proofs.Common.{rules, ◌≡◌, OnOk, Bool, true, false, map, subst}
use Rattle.pq_base.specs.LPresentation.{LPresentation}
use Rattle.pc_presentation.specs.Tailed.{rowed_presentation}
use Rattle.p_cover.specs.Covers.{cover_presentation}
use Rattle.derivation_log.specs.declared.source.RowSource.TheVariants.{Test}
use Rattle.tower.specs.StepKinds.{step_tests}
use Rattle.tower.specs.StepRows.{HaveTakenMore}
use Rattle.tower.proofs.rows.Rows.insert_overlaps.Goals as goal

pub returns-then-FULL-clause-taken : goal.returns-then-FULL-clause-taken
returns-then-FULL-clause-taken g c = λ M.
    let C = c.args.cover.now in
    let push = g.C.Collect.meaning (rowed_presentation (cover_presentation C)) in
    let kind : true ≡ g.L.Log.FULL = search rules in
    subst (λ (full : Bool). HaveTakenMore M C push (map Test (step_tests full C.answer)) c.args.self.now c.insert_all.new.self) kind
    (c.insert_all.ensures.taken M)

pub returns-else-FULL-clause-taken : goal.returns-else-FULL-clause-taken
returns-else-FULL-clause-taken g c =
    let C = c.args.cover.now in
    let push = g.C.Collect.meaning (rowed_presentation (cover_presentation C)) in
    let kind : false ≡ g.L.Log.FULL = search rules in
    subst
    (λ (full : Bool). OnOk c.insert_light.result
    ((M : LPresentation) → HaveTakenMore M C push (map Test (step_tests full C.answer)) c.args.self.now c.insert_light.new.self)) kind
    c.insert_light.ensures.taken
