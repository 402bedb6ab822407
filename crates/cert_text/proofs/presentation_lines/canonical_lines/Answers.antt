use Rattle.std.proofs.Common.{arith}
use Rattle.cert_text.proofs.lines.FirstLines.{IsCanonicalTo-bounds}
use Rattle.cert_text.proofs.presentation_lines.canonical_lines.Goals as goal

pub overflow_add-low : goal.overflow_add-low
overflow_add-low c = omega (arith, c.loop-low.invariant.order, c.loop-low.invariant.bounds)

pub returns-clause-lines : goal.returns-clause-lines
returns-clause-lines c =
    IsCanonicalTo-bounds c.args.text.now c.loop-low.low c.loop-low.high (omega (arith, c.loop-low-test.false)) c.loop-low.invariant.bounds
    c.loop-low.invariant.empty c.loop-low.invariant.order c.loop-low.invariant.low c.loop-low.invariant.high
