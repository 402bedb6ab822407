use Rattle.std.proofs.Common.{◌≡◌, ◌-◌}
use Rattle.pc_presentation.specs.Collection.{plain_push}
use Rattle.pc_presentation.specs.Tailed.{rowed_presentation, with_state}
use Rattle.stack_collector.specs.Stacks.{IsRunning, all_finished, work}
use Rattle.stack_collector.proofs.stack.Stack.push_one.Given as goal

-- what is owed leads to the same end
abbrev pub invariant-loop : goal.invariant-loop
invariant-loop l =
    IsRunning l.pcp l.self l.at
    × (all_finished l.pcp l.self.frames l.at
    ≡ with_state l.fn.at (plain_push (rowed_presentation l.pcp) l.fn.at.state (l.generator - 1)))

abbrev pub decreases-loop : goal.decreases-loop
decreases-loop l = work l.pcp l.self.frames
