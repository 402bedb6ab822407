use Rattle.std.proofs.Common.{◌≡◌, drop}
use Rattle.pc_presentation.specs.Tailed.{IsElement, places_of}
use Rattle.stack_collector.specs.Frames.{pushed}
use Rattle.stack_collector.specs.Stacks.{IsReady}
use Rattle.stack_collector.proofs.stack.StackCollect.push_word.Given as goal

-- what is left to push decides
abbrev pub invariant-loop-s : goal.invariant-loop-s
invariant-loop-s l =
    IsReady l.self l.pcp.presentation.rank
    × IsElement l.pcp l.at
    × (pushed l.pcp l.at (places_of (drop l.s-index l.word)) ≡ pushed l.pcp l.fn.at (places_of l.word))
