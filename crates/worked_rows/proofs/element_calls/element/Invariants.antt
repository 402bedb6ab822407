use Rattle.pc_presentation.specs.Tailed.{IsElement}
use Rattle.worked_rows.proofs.element_calls.element.Given as goal

abbrev pub invariant-loop-s : goal.invariant-loop-s
invariant-loop-s g l = g.C.Collect.serves l.collector l.pcp.presentation.rank × IsElement l.pcp l.at
