use Rattle.std.proofs.Common.{◌<◌, List, length, subst}
use Rattle.derivation_log.specs.Certificates.{StepLines, steps_of}
use Rattle.cert_checker.specs.Judging.{IsRefusedAt, trials_of_steps}
use Rattle.cert_checker.proofs.judging.RunSteps.{steps-none, steps-more, steps-refused, handed-on}
use Rattle.cert_checker.proofs.run.judge_steps.Goals as goal

pub loop-done-init : goal.loop-done-init
loop-done-init c = steps-none c.args.cert.now c.args.run c.in_ok-built.built (c.in_ok-built.ensures c.args.run)

pub returns-in_err-built-2-clause-refused : goal.returns-in_err-built-2-clause-refused
returns-in_err-built-2-clause-refused c =
    handed-on (IsRefusedAt c.args.cert.now (trials_of_steps c.args.run (length (steps_of c.args.cert.now c.args.run))))
    c.from_residual-in_err-built-2.result c.in_err-built-2.field-0.0 c.from_residual-in_err-built-2.ensures.1
    (steps-refused c.args.cert.now c.args.run c.loop-done.done (length (steps_of c.args.cert.now c.args.run)) c.loop-done.built
    c.in_err-built-2.field-0.0 c.loop-done.invariant
    (subst (λ (ss : List StepLines). c.loop-done.done < length ss) c.steps-done-end.ensures c.loop-done-test.true)
    c.in_err-built-2.ensures.refused)

pub loop-done-preserved : goal.loop-done-preserved
loop-done-preserved c =
    steps-more c.args.cert.now c.args.run c.loop-done.done c.loop-done.built c.in_ok-built-2.built c.loop-done.invariant
    c.in_ok-built-2.ensures.built c.in_ok-built-2.ensures.pass
