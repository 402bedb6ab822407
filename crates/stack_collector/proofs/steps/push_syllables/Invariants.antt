use Rattle.std.specs.Prelude.{◌≡◌, ◌≤◌, ◌-◌, length}
use Rattle.pc_presentation.specs.Pcp.{side_word}
use Rattle.stack_collector.proofs.FrameLaws.{with_place}
use Rattle.stack_collector.proofs.StepsInTurn.{LeadsTo}
use Rattle.stack_collector.proofs.steps.push_syllables.Given as goal

-- what is owed leads to the same end, from this place of the word on
abbrev pub invariant-loop-place : goal.invariant-loop-place
invariant-loop-place l =
    (l.word ≡ side_word l.pcp.presentation l.fn.frame.relation)
    × (l.frame ≡ l.fn.frame)
    × (l.fn.frame.place ≤ l.place)
    × LeadsTo l.pcp l.fn.frame l.fn.at (with_place l.fn.frame l.place) l.at

abbrev pub decreases-loop-place : goal.decreases-loop-place
decreases-loop-place l = length l.word - l.place
