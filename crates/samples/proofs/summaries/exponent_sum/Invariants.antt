use Rattle.std.proofs.Common.{◌≡◌, ◌≤◌, ◌*◌, take}
use Rattle.samples.specs.Summary.{exponent_sum}
use Rattle.samples.proofs.summaries.exponent_sum.Given as goal

-- the exponents so far
abbrev pub invariant-loop-i : goal.invariant-loop-i
invariant-loop-i l = (l.total ≡ exponent_sum (take l.i l.answer.images)) × (l.total ≤ 25500 * l.i)
