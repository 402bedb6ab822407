use Rattle.std.proofs.Common.{sym, subst}
use Rattle.pc_presentation.specs.Pcp.{TailedPresentation}
use Rattle.cover_quotient.specs.NextAnswer.{combined_answer}
use Rattle.cover_quotient.specs.NextParts.{IsPresentationOf}
use Rattle.cover_quotient.proofs.next_answers.NextDrafts.{draft-whole}
use Rattle.cover_quotient.proofs.next_presentation.next_presentation.Goals as goal

pub returns : goal.returns
returns c =
    let C = c.args.cover.now in
    let A = combined_answer C c.args.combinations.now in
    let d = c.in_ok-give_commutators.ensures in
    subst (λ (T : TailedPresentation). IsPresentationOf A T) (sym c.finish.ensures)
    (draft-whole A d.of C.answer.presentation.rank c.give_commutators.new.builder d)
