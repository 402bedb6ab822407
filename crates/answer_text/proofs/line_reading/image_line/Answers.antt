use Rattle.std.proofs.Common.{◌≡◌, List}
use Rattle.pc_presentation.specs.declared.syllable.Syllable.{Syllable}
use Rattle.pc_presentation.specs.Syllable.{AreSyllables}
use Rattle.answer_text.specs.Words.{word_text}
use Rattle.answer_text.proofs.texts.PieceTexts.{IfNone-at}
use Rattle.answer_text.proofs.lines.LineTexts.{no-image-word}
use Rattle.answer_text.proofs.line_reading.image_line.Goals as goal

pub returns-in_default-2-clause-none : goal.returns-in_default-2-clause-none
returns-in_default-2-clause-none c =
    no-image-word c.args.prime c.args.rank c.args.line.now c.in-Some.right.now c.in-Some.name c.in-Some.ensures.some.0
    c.in-Some.ensures.some.1
    (IfNone-at c.in_ok-word.field-0
    ((w : List Syllable) → AreSyllables c.args.prime c.args.rank 0 w → ¬ (c.in-Some.right.now ≡ word_text w)) c.in_default-2.is
    c.in_ok-word.ensures.none)
