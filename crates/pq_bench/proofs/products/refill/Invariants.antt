use Rattle.pc_presentation.specs.Tailed.{IsElement}
use Rattle.pq_bench.proofs.products.refill.Given as goal

abbrev pub invariant-loop-i : goal.invariant-loop-i
invariant-loop-i l = IsElement l.pcp l.at
