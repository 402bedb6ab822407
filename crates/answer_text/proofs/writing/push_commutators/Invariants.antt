use Rattle.std.proofs.Common.{◌≡◌, ◌++◌, drop}
use Rattle.pq_base.specs.Lines.{text_of_lines}
use Rattle.answer_text.specs.AnswerText.{commutator_lines}
use Rattle.answer_text.proofs.writing.push_commutators.Given as goal

-- what is written, and the lines of what is left, are all lines
abbrev pub invariant-loop-k : goal.invariant-loop-k
invariant-loop-k l =
    l.out.items ++ text_of_lines (commutator_lines l.k (drop l.k l.answer.presentation.commutators))
    ≡ l.initial.out.items ++ text_of_lines (commutator_lines 0 l.answer.presentation.commutators)
