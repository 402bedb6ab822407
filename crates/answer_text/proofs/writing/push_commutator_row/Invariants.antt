use Rattle.std.proofs.Common.{◌≡◌, ◌-◌, ◌++◌, [], drop, get_or}
use Rattle.pq_base.specs.Lines.{text_of_lines}
use Rattle.answer_text.specs.AnswerText.{commutator_row_lines}
use Rattle.answer_text.proofs.writing.push_commutator_row.Given as goal

-- what is written, and the lines of what is left, are all lines
abbrev pub invariant-loop-k : goal.invariant-loop-k
invariant-loop-k l = let row = get_or l.answer.presentation.commutators (l.j - 1) [] in
    l.out.items ++ text_of_lines (commutator_row_lines l.j l.k (drop l.k row))
    ≡ l.initial.out.items ++ text_of_lines (commutator_row_lines l.j 0 row)
