use Rattle.std.proofs.Common.{◌≡◌, ◌++◌, drop}
use Rattle.pq_base.specs.Lines.{text_of_lines}
use Rattle.answer_text.specs.AnswerText.{image_lines}
use Rattle.answer_text.proofs.writing.push_images.Given as goal

-- what is written, and the lines of what is left, are all lines
abbrev pub invariant-loop-name : goal.invariant-loop-name
invariant-loop-name l =
    (l.out.items ++ text_of_lines (image_lines (drop l.name-index l.name-items) (drop l.name-index l.answer.images))
    ≡ l.initial.out.items ++ text_of_lines (image_lines l.name-items l.answer.images)) × (l.i ≡ l.name-index)
