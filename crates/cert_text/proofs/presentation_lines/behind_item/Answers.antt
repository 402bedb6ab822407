use Rattle.std.proofs.Common.{sym, ◌∙◌}
use Rattle.answer_text.proofs.texts.PieceTexts.{IfNone-of}
use Rattle.cert_text.specs.ReadSoFar.{GoesOnWithP}
use Rattle.cert_text.proofs.lines.FirstLines.{AreItemLines-one, goes_on-no_line, goes_on-line}
use Rattle.cert_text.proofs.presentation_lines.behind_item.Goals as goal

pub returns-in_err-line-clause-none : goal.returns-in_err-line-clause-none
returns-in_err-line-clause-none c = IfNone-of _ (GoesOnWithP c.args.text.now) (goes_on-no_line c.args.text.now c.in_err-line.ensures.none)

pub returns-then-begins_with_p-clause-none : goal.returns-then-begins_with_p-clause-none
returns-then-begins_with_p-clause-none c =
    goes_on-line c.args.text.now c.in_ok-line.line.now c.in_ok-line.rest.now c.in_ok-line.ensures.some c.in_ok-line.ensures.first
    (sym c.begins_with_p.ensures ∙ c.if-begins_with_p.true)

pub returns-else-begins_with_p-clause-some : goal.returns-else-begins_with_p-clause-some
returns-else-begins_with_p-clause-some c =
    AreItemLines-one c.args.text.now c.in_ok-line.line.now c.in_ok-line.rest.now c.in_ok-line.ensures.some c.in_ok-line.ensures.first
    (sym c.begins_with_p.ensures ∙ c.if-begins_with_p.false)
