use Rattle.std.proofs.Common.{[], get_or, ap, sym, ◌∙◌}
use Rattle.pq_base.specs.Answer.{Answer}
use Rattle.cert_checker.proofs.EqualAnswers.{answers-equal}
use Rattle.cert_checker.proofs.equal.answers_are_equal.Goals as goal

pub returns : goal.returns
returns c =
    let A = c.args.left.now in
    let B = c.args.right.now in
    let same = c.presentations_are_equal.ensures.0 c.if-not-presentations_are_equal.false in (
      λ t. answers-equal A B c.pcp-left.ensures.answer c.pcp-right.ensures.answer
          (sym c.pcp.ensures.presentation ∙ same.0 ∙ c.pcp-2.ensures.presentation)
          (sym c.pcp.ensures.weights ∙ same.1 ∙ c.pcp-2.ensures.weights)
          (sym c.names.ensures ∙ c.names_are_equal.ensures.0 c.if-not-names_are_equal.false ∙ c.names-2.ensures)
          (c.definitions_are_equal.ensures.0 c.if-not-definitions_are_equal.false) (c.images_are_equal.ensures.0 t),
      λ e. c.images_are_equal.ensures.1 (λ i l. ap (λ (X : Answer). get_or X.images i []) e),
    )
