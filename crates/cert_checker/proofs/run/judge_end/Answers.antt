use Rattle.std.proofs.Common.{◌++◌, ◌∷◌, [], ap, sym, ◌∙◌, subst}
use Rattle.pq_base.specs.Joined.{IsConsistent}
use Rattle.pq_base.specs.Answer.{Answer}
use Rattle.derivation_log.specs.declared.part.Part.TheVariants as part
use Rattle.derivation_log.specs.CertificateParts.{full_kind, OverlapsAgree}
use Rattle.derivation_log.proofs.JudgedOverlaps.{overlaps-consistent}
use Rattle.cert_checker.specs.Judging.{parts_at, endo_trials, BuiltSoFar, IsRefusedAt}
use Rattle.cert_checker.proofs.judging.Judging.{one-passes, both-pass, refused-before, refused-behind}
use Rattle.cert_checker.proofs.judging.StepParts.{refuse-behind, refuse-before}
use Rattle.cert_checker.proofs.judging.RunSteps.{handed-on, on-ok}
use Rattle.cert_checker.proofs.run.judge_end.Goals as goal

pub returns-in_err-judge_length-clause-refused : goal.returns-in_err-judge_length-clause-refused
returns-in_err-judge_length-clause-refused c =
    refuse-before c.args.cert.now (parts_at c.args.run c.args.cert.now.class (part.Short ∷ []))
    (parts_at c.args.run c.args.cert.now.class (part.Overlap ∷ part.Iterated ∷ []) ++ endo_trials c.args.cert.now c.args.run)
    c.from_residual.result c.in_err-judge_length.field-0.0 c.from_residual.ensures.1 c.in_err-judge_length.ensures.refused

pub returns-in_err-judged_last-clause-refused : goal.returns-in_err-judged_last-clause-refused
returns-in_err-judged_last-clause-refused c =
    handed-on
    (IsRefusedAt c.args.cert.now (parts_at c.args.run c.args.cert.now.class (part.Short ∷ part.Overlap ∷ part.Iterated ∷ [])
    ++ endo_trials c.args.cert.now c.args.run))
    c.from_residual-in_err-judged_last.result c.in_err-judged_last.field-0.0 c.from_residual-in_err-judged_last.ensures.1
    (refused-behind c.args.cert.now (parts_at c.args.run c.args.cert.now.class (part.Short ∷ []))
    (parts_at c.args.run c.args.cert.now.class (part.Overlap ∷ part.Iterated ∷ []) ++ endo_trials c.args.cert.now c.args.run)
    c.in_err-judged_last.field-0.0
    (one-passes c.args.cert.now c.args.run c.args.cert.now.class part.Short c.in_ok-judge_length.ensures.pass)
    (refused-before c.args.cert.now (parts_at c.args.run c.args.cert.now.class (part.Overlap ∷ []))
    (parts_at c.args.run c.args.cert.now.class (part.Iterated ∷ []) ++ endo_trials c.args.cert.now c.args.run)
    c.in_err-judged_last.field-0.0 c.in_err-judged_last.ensures.refused))

pub judge_maps-requires-clause-consistent : goal.judge_maps-requires-clause-consistent
judge_maps-requires-clause-consistent c =
    overlaps-consistent c.built.inside.answer c.pcp-answer.ensures.answer.presentation
    (subst (OverlapsAgree full_kind) (sym (ap (λ (b : BuiltSoFar). b.answer) c.built.view_is ∙ c.requires.answer))
    c.in_ok-judged_last.ensures.ok)

pub returns-clause-consistent : goal.returns-clause-consistent
returns-clause-consistent c =
    on-ok c.judge_maps.result
    (subst (λ (A : Answer). IsConsistent A.presentation) (ap (λ (b : BuiltSoFar). b.answer) c.built.view_is)
    (overlaps-consistent c.built.inside.answer c.pcp-answer.ensures.answer.presentation
    (subst (OverlapsAgree full_kind) (sym (ap (λ (b : BuiltSoFar). b.answer) c.built.view_is ∙ c.requires.answer))
    c.in_ok-judged_last.ensures.ok)))

pub returns-clause-refused : goal.returns-clause-refused
returns-clause-refused c =
    refuse-behind c.args.cert.now (parts_at c.args.run c.args.cert.now.class (part.Short ∷ part.Overlap ∷ []))
    (parts_at c.args.run c.args.cert.now.class (part.Iterated ∷ []) ++ endo_trials c.args.cert.now c.args.run) c.judge_maps.result
    (both-pass c.args.cert.now (parts_at c.args.run c.args.cert.now.class (part.Short ∷ []))
    (parts_at c.args.run c.args.cert.now.class (part.Overlap ∷ []))
    (one-passes c.args.cert.now c.args.run c.args.cert.now.class part.Short c.in_ok-judge_length.ensures.pass)
    (one-passes c.args.cert.now c.args.run c.args.cert.now.class part.Overlap c.in_ok-judged_last.ensures.ok))
    c.judge_maps.ensures.refused
