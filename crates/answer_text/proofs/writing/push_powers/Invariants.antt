use Rattle.std.proofs.Common.{◌≡◌, ◌++◌, drop}
use Rattle.pq_base.specs.Lines.{text_of_lines}
use Rattle.answer_text.specs.AnswerText.{power_lines}
use Rattle.answer_text.proofs.writing.push_powers.Given as goal

-- what is written, and the lines of what is left, are all lines
abbrev pub invariant-loop-k : goal.invariant-loop-k
invariant-loop-k l =
    l.out.items ++ text_of_lines (power_lines l.answer.presentation.prime l.k (drop l.k l.answer.presentation.powers))
    ≡ l.initial.out.items ++ text_of_lines (power_lines l.answer.presentation.prime 0 l.answer.presentation.powers)
