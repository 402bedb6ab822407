use Rattle.std.proofs.Common.{◌+◌, ◌∷◌, [], ap, ◌∙◌}
use Rattle.cover_quotient.specs.Stages.{full_cover_of}
use Rattle.derivation_log.specs.declared.part.Part.TheVariants as part
use Rattle.cert_checker.specs.Judging.{parts_at, BuiltSoFar}
use Rattle.cert_checker.proofs.judging.Judging.{one-passes}
use Rattle.cert_checker.proofs.judging.StepParts.{pass-behind, refuse-behind, refuse-before, cover-next}
use Rattle.cert_checker.proofs.step.judge_step.Goals as goal

pub returns-in_err-judge_extra-clause-refused : goal.returns-in_err-judge_extra-clause-refused
returns-in_err-judge_extra-clause-refused c =
    refuse-before c.args.cert.now (parts_at c.args.run (c.args.done + 1) (part.Extra ∷ []))
    (parts_at c.args.run (c.args.done + 1) (part.Row ∷ part.Sum ∷ part.Rank ∷ []))
    c.from_residual.result c.in_err-judge_extra.field-0.0 c.from_residual.ensures.1 c.in_err-judge_extra.ensures.refused

pub judge_over-requires-clause-cover : goal.judge_over-requires-clause-cover
judge_over-requires-clause-cover c =
    cover-next c.args.cert.now c.args.run c.args.done c.args.built c.in_ok-cover.cover c.requires.built
    (c.in_ok-cover.ensures ∙ ap (λ (b : BuiltSoFar). full_cover_of b.answer) c.built.view_is)

pub returns-clause-pass : goal.returns-clause-pass
returns-clause-pass c =
    pass-behind c.args.cert.now (parts_at c.args.run (c.args.done + 1) (part.Extra ∷ []))
    (parts_at c.args.run (c.args.done + 1) (part.Row ∷ part.Sum ∷ part.Rank ∷ [])) c.judge_over.result
    (one-passes c.args.cert.now c.args.run (c.args.done + 1) part.Extra c.in_ok-judge_extra.ensures.pass) c.judge_over.ensures.pass

pub returns-clause-refused : goal.returns-clause-refused
returns-clause-refused c =
    refuse-behind c.args.cert.now (parts_at c.args.run (c.args.done + 1) (part.Extra ∷ []))
    (parts_at c.args.run (c.args.done + 1) (part.Row ∷ part.Sum ∷ part.Rank ∷ [])) c.judge_over.result
    (one-passes c.args.cert.now c.args.run (c.args.done + 1) part.Extra c.in_ok-judge_extra.ensures.pass) c.judge_over.ensures.refused
