use Rattle.pc_presentation.specs.Tailed.{IsElement}
use Rattle.worked_rows.proofs.element_calls.push_times.Given as goal

abbrev pub invariant-loop : goal.invariant-loop
invariant-loop g l = g.C.Collect.serves l.collector l.pcp.presentation.rank × IsElement l.pcp l.at
