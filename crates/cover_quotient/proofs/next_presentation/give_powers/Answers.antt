use Rattle.std.proofs.Common.{◌≡◌, ◌<◌, ap, ◌∙◌, arith}
use Rattle.pc_presentation.specs.Pcp.{TailedPresentation}
use Rattle.cover_quotient.specs.NextAnswer.{combined_answer}
use Rattle.cover_quotient.proofs.next_answers.NextDrafts.{power-more, power-awaited}
use Rattle.cover_quotient.proofs.next_presentation.give_powers.Goals as goal

pub give-requires-clause-awaited : goal.give-requires-clause-awaited
give-requires-clause-awaited c =
    let C = c.args.cover.now in
    let A = combined_answer C c.args.combinations.now in
    let rank : c.rank-k-end.result ≡ C.answer.presentation.rank =
    c.rank-k-end.ensures.rank ∙ ap (λ (T : TailedPresentation). T.presentation.rank) c.pcp.ensures.presentation in
    let inside : c.loop-k.k < C.answer.presentation.rank = omega (arith, c.loop-k-test.true) in
    power-awaited A c.loop-k.invariant.of C.answer.presentation.rank c.loop-k.k c.loop-k.builder inside (omega arith) c.loop-k.invariant

pub loop-k-preserved : goal.loop-k-preserved
loop-k-preserved c =
    let C = c.args.cover.now in
    let A = combined_answer C c.args.combinations.now in
    let rank : c.rank-k-end.result ≡ C.answer.presentation.rank =
    c.rank-k-end.ensures.rank ∙ ap (λ (T : TailedPresentation). T.presentation.rank) c.pcp.ensures.presentation in
    let inside : c.loop-k.k < A.presentation.rank = omega (arith, c.loop-k-test.true) in
    power-more A c.loop-k.invariant.of C.answer.presentation.rank c.loop-k.k c.loop-k.builder c.give.new.builder inside c.loop-k.invariant
    c.in_ok-give.ensures
