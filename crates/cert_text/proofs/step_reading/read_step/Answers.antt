use Rattle.std.proofs.Common.{◌≡◌, length, sym, subst, arith}
use Rattle.pq_base.specs.Prime.{prime_value}
use Rattle.derivation_log.specs.Certificates.{StepLines}
use Rattle.cert_text.specs.ReadSoFar.{IsStepRead}
use Rattle.cert_text.proofs.lines.StepsRead.{step-read}
use Rattle.cert_text.proofs.step_reading.read_step.Goals as goal

pub returns-clause-read : goal.returns-clause-read
returns-clause-read c =
    let count : c.len.result ≡ length c.in_ok-sources.sources.items = omega (arith, c.len.ensures) in
    subst (λ (s : StepLines). IsStepRead c.args.pres.now (prime_value c.args.prime) c.args.run c.args.text.now s c.in_ok-tails.rest.now)
    (sym c.of.ensures)
    (step-read c.args.pres.now (prime_value c.args.prime) c.args.run c.args.text.now c.in_ok-sources.rest.now c.in_ok-tails.rest.now
    c.in_ok-sources.sources.items c.in_ok-tails.tails.items c.len.result count
    c.in_ok-sources.ensures.lines c.in_ok-sources.ensures.named c.in_ok-sources.ensures.end c.in_ok-tails.ensures.lines
    c.in_ok-tails.ensures.tails c.in_ok-tails.ensures.end)
