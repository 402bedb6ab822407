use Rattle.std.proofs.Common.{◌≤◌, ◌+◌, length}
use Rattle.cert_text.specs.ReadSoFar.{AreItemLines}
use Rattle.cert_text.proofs.presentation_lines.behind_items.Given as goal

-- so many lines were passed
abbrev pub invariant-loop-more : goal.invariant-loop-more
invariant-loop-more l = record {
  lines : AreItemLines l.fn.text l.count l.rest;
  shorter : l.count + length l.rest ≤ length l.fn.text;
}

abbrev pub decreases-loop-more : goal.decreases-loop-more
decreases-loop-more l = length l.rest
