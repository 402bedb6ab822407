use Rattle.std.proofs.Common.{◌≤◌, ◌+◌, length}
use Rattle.pq_base.specs.Prime.{prime_value}
use Rattle.cert_text.specs.ReadSoFar.{AreStepsRead}
use Rattle.cert_text.proofs.run_reading.read_steps.Given as goal

-- the lines of the steps that were read, and what is left, are the text
abbrev pub invariant-loop-steps : goal.invariant-loop-steps
invariant-loop-steps l = record {
  read : AreStepsRead l.fn.pres (prime_value l.fn.prime) l.fn.run l.fn.text l.fn.first l.steps.items l.rest l.number;
  shorter : length l.rest + l.number ≤ length l.fn.text + l.fn.first;
}

abbrev pub decreases-loop-steps : goal.decreases-loop-steps
decreases-loop-steps l = length l.rest
