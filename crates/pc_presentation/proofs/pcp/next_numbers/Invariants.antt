use Rattle.std.proofs.Common.{◌≡◌, ◌+◌}
use Rattle.pc_presentation.specs.Relation.{tabulate}
use Rattle.pc_presentation.proofs.pcp.next_numbers.Given as goal

abbrev pub invariant-loop-m : goal.invariant-loop-m
invariant-loop-m l = l.numbers.items ≡ tabulate l.m (λ m. m + 2)
