use Rattle.std.proofs.Common.{◌≡◌, ◌++◌, drop}
use Rattle.pq_base.specs.Lines.{text_of_lines}
use Rattle.answer_text.specs.AnswerText.{generator_lines}
use Rattle.answer_text.proofs.writing.push_generators.Given as goal

-- what is written, and the lines of what is left, are all lines
abbrev pub invariant-loop-k : goal.invariant-loop-k
invariant-loop-k l =
    l.out.items ++ text_of_lines
    (generator_lines l.answer.presentation.prime l.answer.names l.k (drop l.k l.answer.weights) (drop l.k l.answer.definitions))
    ≡ l.initial.out.items ++ text_of_lines
    (generator_lines l.answer.presentation.prime l.answer.names 0 l.answer.weights l.answer.definitions)
