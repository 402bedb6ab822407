use Rattle.std.proofs.Common.{arith}
use Rattle.cert_text.proofs.lines.FirstLines.{AreItemLines-next}
use Rattle.cert_text.proofs.presentation_lines.behind_items.Goals as goal

pub loop-more-preserved : goal.loop-more-preserved
loop-more-preserved c = record {
  lines = AreItemLines-next c.args.text.now c.loop-more.rest.now c.in-Some.more.now c.loop-more.count c.loop-more.invariant.lines
      c.in-Some.ensures.some;
  shorter = omega (arith, c.in-Some.ensures.shorter, c.loop-more.invariant.shorter);
}
