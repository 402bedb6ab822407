use Rattle.std.proofs.Common.{◌≤◌, ap, ◌∙◌, subst}
use Rattle.pq_base.specs.Limits.{max_rank}
use Rattle.pq_base.specs.Prime.{prime_value}
use Rattle.pq_base.specs.Answer.{Answer}
use Rattle.pc_presentation.specs.Pcp.{TailedPresentation}
use Rattle.pc_presentation.specs.Tailed.{rowed_presentation}
use Rattle.p_cover.specs.Covers.{cover_presentation}
use Rattle.cover_quotient.proofs.kept_tails.EliminatedAnswers.{kept-defining}
use Rattle.cover_quotient.proofs.stages.NextStages.{kept_tails_of_stages_may_define}
use Rattle.derivation_log.specs.declared.source.Run.TheVariants.{Whole}
use Rattle.tower.specs.NamedParts.{named_part}
use Rattle.tower.specs.StepRows.{StepRows}
use Rattle.tower.proofs.StepKinds.{step_cover-covers}
use Rattle.tower.proofs.Quotients.{rank-few}
use Rattle.tower.proofs.ClassSteps.{named-die, covered-stage, step-of, step-answers}
use Rattle.tower.proofs.LoggedSteps.{logged-taken}
use Rattle.tower.proofs.classes.one_class.Goals as goal

pub rows_of_class-requires-clause-consistent : goal.rows_of_class-requires-clause-consistent
rows_of_class-requires-clause-consistent g c =
    (covered-stage g.L.Log.FULL (named_part c.args.pres.now c.args.relators.now) (prime_value c.args.prime) c.args.k c.args.answer.now
    c.in_ok-cover.cover c.in_ok-cover.ensures c.requires.grown.tower.stage).consistent

pub rows_of_class-requires-clause-names : goal.rows_of_class-requires-clause-names
rows_of_class-requires-clause-names g c =
    (covered-stage g.L.Log.FULL (named_part c.args.pres.now c.args.relators.now) (prime_value c.args.prime) c.args.k c.args.answer.now
    c.in_ok-cover.cover c.in_ok-cover.ensures c.requires.grown.tower.stage).names

pub rows_of_class-requires-clause-killed : goal.rows_of_class-requires-clause-killed
rows_of_class-requires-clause-killed g c =
    named-die c.args.pres.now c.args.relators.now (prime_value c.args.prime) c.args.k c.in_ok-cover.cover.answer
    (covered-stage g.L.Log.FULL (named_part c.args.pres.now c.args.relators.now) (prime_value c.args.prime) c.args.k c.args.answer.now
    c.in_ok-cover.cover c.in_ok-cover.ensures c.requires.grown.tower.stage)

pub eliminate-requires-clause-kept : goal.eliminate-requires-clause-kept
eliminate-requires-clause-kept g c =
    let C = c.in_ok-cover.cover in
    kept-defining C c.rows.inside.basis.rows
    (kept_tails_of_stages_may_define (named_part c.args.pres.now c.args.relators.now) (prime_value c.args.prime) c.args.k C
    (g.C.Collect.meaning (rowed_presentation (cover_presentation C))) c.rows.inside.basis
    (step-of g.C.Collect.meaning g.met.C.Collect.reaches g.L.Log.FULL c.args.pres.now c.names-names.ensures.presentation c.args.relators.now
    (prime_value c.args.prime) c.args.k c.args.answer.now C c.in_ok-cover.ensures c.pcp.ensures.cover c.requires.grown c.in_ok-rows.rows
    c.in_ok-rows.ensures.over c.in_ok-rows.ensures.taken c.rows.inside.basis (ap (λ (R : StepRows). R.basis) c.rows.view_is)))

pub returns-clause-step : goal.returns-clause-step
returns-clause-step g c =
    let A = c.args.answer.now in
    let C = c.in_ok-cover.cover in
    let few : A.presentation.rank ≤ max_rank =
    subst (λ (D : Answer). D.presentation.rank ≤ max_rank) (step_cover-covers g.L.Log.FULL C A c.in_ok-cover.ensures)
    (rank-few C.answer.presentation c.pcp.result.now (ap (λ (T : TailedPresentation). T.presentation) c.pcp.ensures.presentation)
    c.rank-rank.ensures.presentation) in
    step-answers g.C.Collect.meaning g.met.C.Collect.reaches g.L.Log.FULL c.args.pres.now c.names-names.ensures.presentation
    c.args.relators.now (prime_value c.args.prime) c.args.k A C c.in_ok-cover.ensures c.pcp.ensures.cover c.requires.grown c.in_ok-rows.rows
    c.in_ok-rows.ensures.over c.in_ok-rows.ensures.taken c.rows.inside.basis (ap (λ (R : StepRows). R.basis) c.rows.view_is)
    c.requires.class few c.in_ok-step.step c.in_ok-step.ensures

pub returns-clause-logged : goal.returns-clause-logged
returns-clause-logged g c =
    logged-taken g.L.Log.FULL c.args.pres.now g.C.Collect.meaning c.args.answer.now c.in_ok-cover.cover c.in_ok-cover.ensures
    c.args.relators.now c.in_ok-rows.rows c.in_ok-rows.ensures.over c.in_ok-rows.ensures.taken c.as_slice.result.now c.rows.inside.basis
    (c.as_slice.ensures.value ∙ ap (λ (R : StepRows). R.noted) c.rows.view_is) (ap (λ (R : StepRows). R.basis) c.rows.view_is)
    (g.L.Log.keeps c.args.log.now Whole) (g.L.Log.keeps c.step.new.self Whole) c.in_ok-step-2.ensures.kept c.in_ok-step.step
    c.in_ok-step.ensures
