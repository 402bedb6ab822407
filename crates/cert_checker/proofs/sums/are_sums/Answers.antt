use Rattle.std.proofs.Common.{refl}
use Rattle.derivation_log.specs.CertificateParts.{IsSumOfRows}
use Rattle.cert_checker.specs.StepRows.{entries_of}
use Rattle.cert_checker.proofs.ListSteps.{all-more, all-whole}
use Rattle.cert_checker.proofs.sums.are_sums.Goals as goal

pub loop-line-preserved : goal.loop-line-preserved
loop-line-preserved c = (
  c.is_sum.ensures.sum,
  all-more (IsSumOfRows c.args.cover.now (entries_of c.args.rows.now)) c.args.lines.now c.loop-line.line-index c.line-item.result
      c.loop-line-test.true c.line-item.is c.loop-line.invariant.1 (c.is_sum.ensures.decided.0 c.if-not-is_sum.false),
)

pub returns : goal.returns
returns c = (
  (λ _. all-whole (IsSumOfRows c.args.cover.now (entries_of c.args.rows.now)) c.args.lines.now c.loop-line.line-index c.loop-line-test.false
      c.loop-line.invariant.1),
  (λ _. refl),
)
