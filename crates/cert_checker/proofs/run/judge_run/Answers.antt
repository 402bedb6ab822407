use Rattle.std.proofs.Common.{◌++◌, ◌∷◌, [], length}
use Rattle.derivation_log.specs.declared.part.Part.TheVariants as part
use Rattle.derivation_log.specs.Certificates.{steps_of}
use Rattle.derivation_log.specs.Validity.{run_trials}
use Rattle.cert_checker.specs.Judging.{parts_at, endo_trials, trials_of_steps, IsRefusedAt}
use Rattle.cert_checker.proofs.judging.Judging.{both-pass, refused-behind}
use Rattle.cert_checker.proofs.judging.RunSteps.{handed-on}
use Rattle.cert_checker.proofs.run.judge_run.Goals as goal

pub returns-in_err-judge_end-clause-refused : goal.returns-in_err-judge_end-clause-refused
returns-in_err-judge_end-clause-refused c =
    handed-on (IsRefusedAt c.args.cert.now (run_trials c.args.cert.now c.args.run))
    c.from_residual-in_err-judge_end.result c.in_err-judge_end.field-0.0 c.from_residual-in_err-judge_end.ensures.1
    (refused-behind c.args.cert.now (trials_of_steps c.args.run (length (steps_of c.args.cert.now c.args.run)))
    (parts_at c.args.run c.args.cert.now.class (part.Short ∷ part.Overlap ∷ part.Iterated ∷ []) ++ endo_trials c.args.cert.now c.args.run)
    c.in_err-judge_end.field-0.0 c.in_ok-built.ensures.pass c.in_err-judge_end.ensures.refused)

pub returns-clause-pass : goal.returns-clause-pass
returns-clause-pass c =
    both-pass c.args.cert.now (trials_of_steps c.args.run (length (steps_of c.args.cert.now c.args.run)))
    (parts_at c.args.run c.args.cert.now.class (part.Short ∷ part.Overlap ∷ part.Iterated ∷ []) ++ endo_trials c.args.cert.now c.args.run)
    c.in_ok-built.ensures.pass c.in_ok-judge_end.ensures.pass
