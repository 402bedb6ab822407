use Rattle.std.proofs.Common.{length, ap, sym, ◌∙◌}
use borrow.Author.Tests.{eqb-true, eq-eqb}
use Rattle.pq_base.specs.Presentation.{Presentation}
use Rattle.pc_presentation.specs.Syllable.{syllables_of}
use Rattle.pc_presentation.specs.Relation.{side_start}
use Rattle.pc_presentation.specs.Pcp.{right_side}
use Rattle.cert_checker.proofs.KeptTails.{empty-decided}
use Rattle.cert_checker.proofs.kept.has_empty_word.Goals as goal

pub returns : goal.returns
returns c =
    let r = c.args.relation in
    let same = c.word.ensures ∙ ap (λ (P : Presentation). syllables_of (side_start r) (right_side P r)) c.pcp.ensures.presentation in
    let decided = empty-decided c.args.answer.now c.args.answer.now.presentation.rank r c.requires in (
      (λ empty. decided.0 (sym (ap length same) ∙ eqb-true (length c.word.result.now) 0 (sym c.is_empty.ensures ∙ empty))),
      (λ none. c.is_empty.ensures ∙ eq-eqb (length c.word.result.now) 0 (ap length same ∙ decided.1 none)),
    )
