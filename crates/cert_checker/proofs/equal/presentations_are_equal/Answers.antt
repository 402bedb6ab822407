use Rattle.std.proofs.Common.{◌≡◌, ℕ, List, get_or, ap, sym, ◌∙◌}
use Rattle.cert_checker.proofs.EqualAnswers.{presentations-equal, weights-equal}
use Rattle.cert_checker.proofs.equal.presentations_are_equal.Goals as goal

pub returns : goal.returns
returns c =
    let T = c.args.left.now in
    let S = c.args.right.now in
    let is = c.rank-left.ensures.presentation in
    let also = c.rank-right.ensures.presentation in
    let prime : c.args.left.now.presentation.prime ≡ c.args.right.now.presentation.prime =
    sym (c.value.ensures.value ∙ c.prime.ensures) ∙ c.if-value.false ∙ c.value-2.ensures.value ∙ c.prime-2.ensures in
    let rank : c.args.left.now.presentation.rank ≡ c.args.right.now.presentation.rank =
    sym c.rank.ensures.rank ∙ c.if-rank.false ∙ c.rank-2.ensures.rank in (
      λ t. (
        presentations-equal T.presentation S.presentation is.presentation also.presentation prime rank
            (c.powers_are_equal.ensures.0 c.if-not-powers_are_equal.false)
            (c.commutators_are_equal.ensures.0 c.if-not-commutators_are_equal.false),
        weights-equal T.weights S.weights T.presentation.rank S.presentation.rank is.weight_count also.weight_count rank
            (c.weights_are_equal.ensures.0 t),
      ),
      λ e. c.weights_are_equal.ensures.1 (λ i l. ap (λ (w : List ℕ). get_or w i 0) e.1),
    )
