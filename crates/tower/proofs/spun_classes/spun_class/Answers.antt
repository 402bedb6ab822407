use Rattle.std.proofs.Common.{◌≤◌, ℕ, ap, sym, ◌∙◌, subst}
use Rattle.std.specs.List.{All}
use Rattle.std.proofs.lemmas.List.Elements.{All-append}
use Rattle.pq_base.specs.Limits.{max_rank}
use Rattle.pq_base.specs.Prime.{prime_value}
use Rattle.pq_base.specs.LPresentation.{part}
use Rattle.pq_base.specs.LPresentation.Part.{iterated_part}
use Rattle.pq_base.specs.Answer.{Answer}
use Rattle.pc_presentation.specs.Pcp.{TailedPresentation}
use Rattle.pc_presentation.specs.Tailed.{rowed_presentation}
use Rattle.p_cover.specs.Covers.{cover_presentation}
use Rattle.cover_quotient.proofs.kept_tails.EliminatedAnswers.{kept-defining}
use Rattle.cover_quotient.proofs.stages.NextStages.{kept_tails_of_stages_may_define}
use Rattle.tower.specs.NamedParts.{IsNamed}
use Rattle.tower.specs.StepRows.{StepRows}
use Rattle.tower.proofs.Quotients.{rank-few}
use Rattle.tower.proofs.StepKinds.{step_cover-covers, step_cover-own}
use Rattle.tower.proofs.LoggedSteps.{logged-taken}
use Rattle.tower.proofs.SpunSteps.{spun-stage, spun-step_of, spun-answers}
use Rattle.tower.proofs.spun_classes.spun_class.Goals as goal

pub rows_of_class-requires-clause-stage : goal.rows_of_class-requires-clause-stage
rows_of_class-requires-clause-stage g c =
    spun-stage g.L.Log.FULL c.args.pres.now c.args.recorded.now.items (prime_value c.args.prime) c.args.k c.args.answer.now
    c.in_ok-cover.cover c.in_ok-cover.ensures c.requires.grown

pub rows_of_class-requires-clause-kind : goal.rows_of_class-requires-clause-kind
rows_of_class-requires-clause-kind g c = step_cover-own g.L.Log.FULL c.in_ok-cover.cover c.args.answer.now c.in_ok-cover.ensures

pub eliminate-requires-clause-kept : goal.eliminate-requires-clause-kept
eliminate-requires-clause-kept g c =
    let L = c.args.pres.now in
    let C = c.in_ok-cover.cover in
    let B = c.rows.inside.basis in
    let p : ℕ = prime_value c.args.prime in
    kept-defining C B.rows
    (kept_tails_of_stages_may_define (part L iterated_part) p c.args.k C (g.C.Collect.meaning (rowed_presentation (cover_presentation C))) B
    (spun-step_of g.C.Collect.meaning g.met.C.Collect.reaches g.L.Log.FULL L c.names-names.ensures.presentation p c.args.k
    c.args.recorded.now.items
    c.in_ok-rows.relators.items c.args.answer.now C c.in_ok-cover.ensures c.pcp.ensures.cover c.requires.grown c.in_ok-rows.ensures.iterated
    c.in_ok-rows.rows c.in_ok-rows.ensures.over c.in_ok-rows.ensures.taken c.in_ok-rows.ensures.suffice B
    (ap (λ (R : StepRows). R.basis) c.rows.view_is)))

pub returns-clause-iterated : goal.returns-clause-iterated
returns-clause-iterated g c =
    subst (All (IsNamed (part c.args.pres.now iterated_part))) (sym c.in_ok-append.ensures.items)
    (All-append (IsNamed (part c.args.pres.now iterated_part)) c.args.recorded.now.items c.in_ok-rows.relators.items
    c.requires.grown.iterated
    c.in_ok-rows.ensures.iterated)

pub returns-clause-step : goal.returns-clause-step
returns-clause-step g c =
    let L = c.args.pres.now in
    let A = c.args.answer.now in
    let C = c.in_ok-cover.cover in
    let few : A.presentation.rank ≤ max_rank =
    subst (λ (D : Answer). D.presentation.rank ≤ max_rank) (step_cover-covers g.L.Log.FULL C A c.in_ok-cover.ensures)
    (rank-few C.answer.presentation c.pcp.result.now (ap (λ (T : TailedPresentation). T.presentation) c.pcp.ensures.presentation)
    c.rank-rank.ensures.presentation) in
    (spun-answers g.C.Collect.meaning g.met.C.Collect.reaches g.L.Log.FULL L c.names-names.ensures.presentation
    (prime_value c.args.prime) c.args.k
    c.args.recorded.now.items c.in_ok-rows.relators.items A C c.in_ok-cover.ensures c.pcp.ensures.cover c.requires.grown
    c.in_ok-rows.ensures.iterated c.in_ok-rows.rows c.in_ok-rows.ensures.over c.in_ok-rows.ensures.taken c.in_ok-rows.ensures.suffice
    c.rows.inside.basis (ap (λ (R : StepRows). R.basis) c.rows.view_is) c.requires.class few c.append.new.self.items
    c.in_ok-append.ensures.items c.in_ok-step.step c.in_ok-step.ensures).0

pub returns-clause-recorded : goal.returns-clause-recorded
returns-clause-recorded g c =
    let L = c.args.pres.now in
    let A = c.args.answer.now in
    let C = c.in_ok-cover.cover in
    let few : A.presentation.rank ≤ max_rank =
    subst (λ (D : Answer). D.presentation.rank ≤ max_rank) (step_cover-covers g.L.Log.FULL C A c.in_ok-cover.ensures)
    (rank-few C.answer.presentation c.pcp.result.now (ap (λ (T : TailedPresentation). T.presentation) c.pcp.ensures.presentation)
    c.rank-rank.ensures.presentation) in
    (spun-answers g.C.Collect.meaning g.met.C.Collect.reaches g.L.Log.FULL L c.names-names.ensures.presentation
    (prime_value c.args.prime) c.args.k
    c.args.recorded.now.items c.in_ok-rows.relators.items A C c.in_ok-cover.ensures c.pcp.ensures.cover c.requires.grown
    c.in_ok-rows.ensures.iterated c.in_ok-rows.rows c.in_ok-rows.ensures.over c.in_ok-rows.ensures.taken c.in_ok-rows.ensures.suffice
    c.rows.inside.basis (ap (λ (R : StepRows). R.basis) c.rows.view_is) c.requires.class few c.append.new.self.items
    c.in_ok-append.ensures.items c.in_ok-step.step c.in_ok-step.ensures).1

pub returns-clause-logged : goal.returns-clause-logged
returns-clause-logged g c =
    logged-taken g.L.Log.FULL (part c.args.pres.now iterated_part) g.C.Collect.meaning c.args.answer.now c.in_ok-cover.cover
    c.in_ok-cover.ensures c.in_ok-rows.relators.items c.in_ok-rows.rows c.in_ok-rows.ensures.over c.in_ok-rows.ensures.taken_in_part
    c.as_slice.result.now
    c.rows.inside.basis (c.as_slice.ensures.value ∙ ap (λ (R : StepRows). R.noted) c.rows.view_is)
    (ap (λ (R : StepRows). R.basis) c.rows.view_is) (g.L.Log.keeps c.args.log.now c.args.run) (g.L.Log.keeps c.step.new.self c.args.run)
    c.in_ok-step-2.ensures.kept c.in_ok-step.step c.in_ok-step.ensures
