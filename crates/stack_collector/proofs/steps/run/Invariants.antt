use Rattle.stack_collector.specs.Frames.{effort}
use Rattle.stack_collector.proofs.StepsInTurn.{LeadsTo}
use Rattle.stack_collector.proofs.steps.run.Given as goal

-- what is owed leads to the same end
abbrev pub invariant-loop-ended : goal.invariant-loop-ended
invariant-loop-ended l = LeadsTo l.pcp l.fn.frame l.fn.at l.frame l.at

abbrev pub decreases-loop-ended : goal.decreases-loop-ended
decreases-loop-ended l = effort l.pcp l.frame
