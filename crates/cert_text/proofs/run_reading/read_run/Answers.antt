use Rattle.std.proofs.Common.{ℕ, length, sym, subst}
use Rattle.pq_base.specs.LPresentation.{LPresentation}
use Rattle.pq_base.specs.Prime.{prime_value}
use Rattle.cert_text.specs.CertificateText.{steps_lines}
use Rattle.cert_text.specs.ReadSoFar.{AreStepsRead}
use Rattle.cert_text.proofs.lines.RunsRead.{run-bad}
use Rattle.cert_text.proofs.run_reading.read_run.Goals as goal

pub returns-in-None-clause-err : goal.returns-in-None-clause-err
returns-in-None-clause-err c H earlier head same_presentation same_prime =
    let read =
    subst (λ (p : ℕ). AreStepsRead H.presentation p c.args.run c.args.text.now c.args.first c.in_ok-steps.steps.items c.in_ok-steps.rest.now
    c.in_ok-steps.number) (sym same_prime)
    (subst (λ (L : LPresentation). AreStepsRead L (prime_value c.args.prime) c.args.run c.args.text.now c.args.first
    c.in_ok-steps.steps.items c.in_ok-steps.rest.now c.in_ok-steps.number) (sym same_presentation)
    c.in_ok-steps.ensures.read) in (
      length (steps_lines 0 c.in_ok-steps.steps.items),
      read.numbered,
      run-bad H c.args.run earlier c.in_ok-steps.steps.items c.args.text.now c.in_ok-steps.rest.now c.args.first c.in_ok-steps.number read
          head c.in_ok-steps.ensures.end c.in-None.ensures.none,
    )
