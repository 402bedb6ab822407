use Rattle.std.proofs.Common.{◌≡◌, length, ap, sym, ◌∙◌}
use borrow.Author.Tests.{eqb-true}
use Rattle.pq_base.specs.Presentation.{Presentation}
use Rattle.pc_presentation.specs.Syllable.{syllables_of}
use Rattle.pc_presentation.specs.Relation.{side_start}
use Rattle.pc_presentation.specs.Pcp.{right_side}
use Rattle.worked_rows.proofs.KeptTails.{empty_side}
use Rattle.worked_rows.proofs.step_cases.has_empty_word.Goals as goal

pub returns-then-is_relation : goal.returns-then-is_relation
returns-then-is_relation c empty =
    let r = c.args.relation in
    let none : length c.word.result.now ≡ 0 = eqb-true (length c.word.result.now) 0 (sym c.is_empty.ensures ∙ empty) in
    let same = c.word.ensures ∙ ap (λ (P : Presentation). syllables_of (side_start r) (right_side P r)) c.pcp-pcp.ensures.presentation in
    empty_side c.args.answer.now c.rank.result r (c.is_relation.ensures.0 c.if-is_relation.true) (sym (ap length same) ∙ none)
