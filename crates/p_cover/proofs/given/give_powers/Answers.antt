use Rattle.std.proofs.Common.{◌≡◌, ◌+◌, ◌≤◌, ℕ, ap, ◌∙◌, arith}
use Rattle.pq_base.specs.Presentation.{Presentation}
use Rattle.pc_presentation.specs.declared.relation.Relation.TheVariants.{Power}
use Rattle.p_cover.proofs.GivenLaws.{goes_on-one}
use Rattle.p_cover.proofs.GivenSteps.{powers-more}
use Rattle.p_cover.proofs.given.give_powers.Goals as goal

pub loop-k-preserved : goal.loop-k-preserved
loop-k-preserved c =
    let A = c.args.answer.now in
    let k : ℕ = c.loop-k.k in
    let rank : c.rank-k-end.result ≡ A.presentation.rank =
    c.rank-k-end.ensures.rank ∙ ap (λ (P : Presentation). P.rank) c.pcp.ensures.presentation in
    let last : k + 1 ≤ A.presentation.rank = omega (arith, c.loop-k-test.true) in (
      c.give.ensures.draft,
      powers-more A c.args.builder.now c.loop-k.builder c.give.new.builder k c.loop-k.invariant.1
          (goes_on-one A c.pcp.ensures.answer.presentation c.loop-k.builder c.give.new.builder (Power (k + 1)) (omega arith, last)
          c.in_ok-give.ensures.given),
    )
