use Rattle.std.proofs.Common.{◌++◌}
use Rattle.derivation_log.specs.declared.source.Run.TheVariants.{Whole}
use Rattle.derivation_log.specs.Validity.{run_trials}
use Rattle.cert_checker.specs.Judging.{IsRefusalOf, first_run_trials, last_trials}
use Rattle.cert_checker.proofs.judging.Judging.{both-pass, refused-before, refused-behind, refusal-of}
use Rattle.cert_checker.proofs.judging.RunSteps.{handed-on}
use Rattle.cert_checker.proofs.checking.check.Goals as goal

pub returns-in_err-first-clause-refused : goal.returns-in_err-first-clause-refused
returns-in_err-first-clause-refused c =
    let cert = c.args.cert.now in
    handed-on (IsRefusalOf cert) c.from_residual.result c.in_err-first.field-0.0 c.from_residual.ensures.1
    (refusal-of cert c.in_err-first.field-0.0
    (refused-before cert (first_run_trials cert) (run_trials cert Whole ++ last_trials cert) c.in_err-first.field-0.0
    c.in_err-first.ensures.refused))

pub returns-in_err-whole-clause-refused : goal.returns-in_err-whole-clause-refused
returns-in_err-whole-clause-refused c =
    let cert = c.args.cert.now in
    handed-on (IsRefusalOf cert) c.from_residual-in_err-whole.result c.in_err-whole.field-0.0 c.from_residual-in_err-whole.ensures.1
    (refusal-of cert c.in_err-whole.field-0.0
    (refused-behind cert (first_run_trials cert) (run_trials cert Whole ++ last_trials cert) c.in_err-whole.field-0.0
    c.in_ok-first.ensures.pass
    (refused-before cert (run_trials cert Whole) (last_trials cert) c.in_err-whole.field-0.0 c.in_err-whole.ensures.refused)))

pub returns-in_err-judge_last-clause-refused : goal.returns-in_err-judge_last-clause-refused
returns-in_err-judge_last-clause-refused c =
    let cert = c.args.cert.now in
    handed-on (IsRefusalOf cert) c.from_residual-in_err-judge_last.result c.in_err-judge_last.field-0.0
    c.from_residual-in_err-judge_last.ensures.1
    (refusal-of cert c.in_err-judge_last.field-0.0
    (refused-behind cert (first_run_trials cert) (run_trials cert Whole ++ last_trials cert) c.in_err-judge_last.field-0.0
    c.in_ok-first.ensures.pass
    (refused-behind cert (run_trials cert Whole) (last_trials cert) c.in_err-judge_last.field-0.0 c.in_ok-whole.ensures.pass
    c.in_err-judge_last.ensures.refused)))

pub returns-clause-valid : goal.returns-clause-valid
returns-clause-valid c =
    let cert = c.args.cert.now in
    both-pass cert (first_run_trials cert) (run_trials cert Whole ++ last_trials cert) c.in_ok-first.ensures.pass
    (both-pass cert (run_trials cert Whole) (last_trials cert) c.in_ok-whole.ensures.pass c.in_ok-judge_last.ensures.pass)
