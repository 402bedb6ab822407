use Rattle.pc_presentation.specs.Tailed.{IsElement}
use Rattle.stack_collector.specs.Stacks.{IsReady}
use Rattle.worked_rows.proofs.push_cases.show_pushes.Given as goal

abbrev pub invariant-loop : goal.invariant-loop
invariant-loop l = record {
  ready : IsReady l.reached.stack l.pcp.presentation.rank;
  by_plain : IsElement l.pcp l.reached.by_plain;
  by_stack : IsElement l.pcp l.reached.by_stack;
}
