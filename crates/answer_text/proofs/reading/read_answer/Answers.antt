use Rattle.std.proofs.Common.{◌≡◌, ℕ, List, sym, subst}
use Rattle.pc_presentation.specs.Parts.{words_of}
use Rattle.answer_text.specs.declared.source.Source.{Source}
use Rattle.answer_text.specs.AnswerFaults.{IsAnswerText}
use Rattle.answer_text.specs.Drafts.{SoFar, so_far}
use Rattle.answer_text.specs.BodyRead.{IsRead}
use Rattle.answer_text.proofs.lines.ReadLines.{IsFaultLine-read}
use Rattle.answer_text.proofs.reading.read_answer.Goals as goal
use Rattle.answer_text.proofs.texts.PieceTexts.{IfNone-at}

pub returns-clause-fault : goal.returns-clause-fault
returns-clause-fault c =
    let bytes : List ℕ = c.args.bytes.now in
    let end : ℕ = c.in_ok-sources.field-0.end in
    let ss : List Source = c.in_ok-sources.field-0.sources.items in
    let S : SoFar =
    so_far c.in_ok-sources.field-0.body.builder c.in_ok-sources.field-0.body.last c.in_ok-sources.field-0.body.names.items
    (words_of c.in_ok-sources.field-0.body.images.items) in
    let read : IsRead bytes end ss S = c.in_ok-sources.ensures.ok in
    let sources : c.deref.result.now ≡ ss = c.deref.ensures.value in
    let none : (m : ℕ) → IsRead bytes m c.deref.result.now S → ¬ IsAnswerText bytes =
    IfNone-at c.in_ok-answer.field-0 ((m : ℕ) → IsRead bytes m c.deref.result.now S → ¬ IsAnswerText bytes) c.in-None.is
    c.in_ok-answer.ensures.none in
    IsFaultLine-read bytes end ss S read (none end (subst (λ (x : List Source). IsRead bytes end x S) (sym sources) read))
