use Rattle.std.proofs.Common.{◌≡◌, ◌-◌}
use Rattle.pc_presentation.specs.Pcp.{row_of}
use Rattle.pc_presentation.specs.Tailed.{IsElement}
use Rattle.pc_presentation.proofs.commuting.AddedTails.{with_row_times}
use Rattle.pc_presentation.proofs.tails.add_tail_times.Given as goal

-- what is left to add decides
abbrev pub invariant-loop : goal.invariant-loop
invariant-loop l =
    IsElement l.pcp l.at
    × (with_row_times l.pcp.presentation.prime (row_of l.pcp.tails l.tail) (l.times - l.counter) l.at
    ≡ with_row_times l.pcp.presentation.prime (row_of l.pcp.tails l.tail) l.times l.fn.at)
