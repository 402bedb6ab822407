use Rattle.pc_presentation.specs.Tailed.{IsElement}
use Rattle.pc_presentation.specs.Scratch.{IsScratch}
use Rattle.pq_bench.proofs.products.multiplied.Given as goal

abbrev pub invariant-loop : goal.invariant-loop
invariant-loop g l = IsScratch l.pcp l.scratch × IsElement l.pcp l.at × IsElement l.pcp l.factor × IsElement l.pcp l.out
