use Rattle.std.proofs.Common.{◌≡◌, ◌-◌, replicate}
use Rattle.pc_presentation.specs.Tailed.{IsElement}
use Rattle.stack_collector.specs.Frames.{pushed}
use Rattle.stack_collector.specs.Stacks.{IsReady}
use Rattle.stack_collector.proofs.stack.Stack.push_copies.Given as goal

-- what is left to push decides
abbrev pub invariant-loop-left : goal.invariant-loop-left
invariant-loop-left l =
    IsReady l.self l.pcp.presentation.rank
    × IsElement l.pcp l.at
    × (pushed l.pcp l.at (replicate l.left (l.generator - 1)) ≡ pushed l.pcp l.fn.at (replicate l.copies (l.generator - 1)))

abbrev pub decreases-loop-left : goal.decreases-loop-left
decreases-loop-left l = l.left
