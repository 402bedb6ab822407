use Rattle.std.proofs.Common.{arith, inl, inr}
use Rattle.cert_text.proofs.lines.FirstLines.{first_lines-end}
use Rattle.cert_text.specs.ReadSoFar.{first_lines}
use Rattle.cert_text.proofs.presentation_lines.first_lines.Goals as goal
use Rattle.cert_text.proofs.presentation_lines.first_lines.Goals.{then-loop-left-test+else-at-text, else-loop-left-test}

pub returns : goal.returns
returns c = elim c.loop-left-test.branch [
  | then-loop-left-test+else-at-text w ↦ first_lines-end c.args.text.now c.loop-left.left c.loop-left.at
      (first_lines c.args.count c.args.text.now) (inr (omega (arith, w.if-at-text))) c.loop-left.invariant.lines
  | else-loop-left-test w ↦ first_lines-end c.args.text.now c.loop-left.left c.loop-left.at (first_lines c.args.count c.args.text.now)
      (inl (omega (arith, w.loop-left-test.false))) c.loop-left.invariant.lines
]
