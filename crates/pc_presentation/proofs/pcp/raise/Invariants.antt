use Rattle.std.proofs.Common.{◌≡◌}
use Rattle.pc_presentation.specs.CommutingNumbers.{raised_to}
use Rattle.pc_presentation.proofs.pcp.raise.Given as goal

abbrev pub invariant-loop-m : goal.invariant-loop-m
invariant-loop-m l = l.numbers ≡ raised_to l.least l.m l.fn.numbers
