use Rattle.std.proofs.Common.{[], ◌∷◌}
use Rattle.derivation_log.specs.declared.part.Part.TheVariants as part
use Rattle.cert_checker.specs.Judging.{parts_at}
use Rattle.cert_checker.proofs.judging.StepParts.{part-passes, pass-behind, refuse-behind, refuse-before}
use Rattle.cert_checker.proofs.step.judge_kept.Goals as goal

pub returns-in_err-judge_rows-clause-refused : goal.returns-in_err-judge_rows-clause-refused
returns-in_err-judge_rows-clause-refused c =
    refuse-before c.args.cert.now (parts_at c.args.run c.args.class (part.Row ∷ part.Sum ∷ []))
    (parts_at c.args.run c.args.class (part.Rank ∷ []))
    c.from_residual.result c.in_err-judge_rows.field-0.0 c.from_residual.ensures.1 c.in_err-judge_rows.ensures.refused

pub returns-clause-pass : goal.returns-clause-pass
returns-clause-pass c =
    pass-behind c.args.cert.now (parts_at c.args.run c.args.class (part.Row ∷ part.Sum ∷ []))
    (parts_at c.args.run c.args.class (part.Rank ∷ []))
    c.judge_rank.result c.in_ok-judge_rows.ensures.pass
    (part-passes c.args.cert.now c.args.run c.args.class part.Rank c.judge_rank.result c.judge_rank.ensures.pass)

pub returns-clause-refused : goal.returns-clause-refused
returns-clause-refused c =
    refuse-behind c.args.cert.now (parts_at c.args.run c.args.class (part.Row ∷ part.Sum ∷ []))
    (parts_at c.args.run c.args.class (part.Rank ∷ []))
    c.judge_rank.result c.in_ok-judge_rows.ensures.pass c.judge_rank.ensures.refused
