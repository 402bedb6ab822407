-- The exponents of an image are those of its list, and there are at most as many syllables as generators.
use Rattle.std.proofs.Common.{◌≡◌, ◌≤◌, ◌+◌, ◌-◌, ℕ, List, length, ap, subst, arith}
use Rattle.pq_base.specs.Presentation.{Presentation}
use Rattle.pq_base.specs.Answer.{Answer}
use Rattle.samples.proofs.Exponents.{length-image, exponents_more}
use Rattle.samples.proofs.summaries.exponent_sum.Goals as goal

pub exponents-total-requires : goal.exponents-total-requires
exponents-total-requires c =
    let few : c.args.answer.now.presentation.rank ≤ 100 =
    subst (λ (P : Presentation). P.rank ≤ 100) c.pcp.ensures.presentation c.rank-rank.ensures.presentation.rank_limit in
    length-image c.args.answer.now (c.loop-i.i + 1 - 1) c.image.result.now c.pcp.ensures.answer few c.image.ensures

pub loop-i-preserved : goal.loop-i-preserved
loop-i-preserved c =
    let A : Answer = c.args.answer.now in
    let names : length c.names.result.now ≡ length A.names = ap (λ (ns : List (List ℕ)). length ns) c.names.ensures in
    let images : length A.images ≡ length A.names = c.pcp.ensures.answer.image_count in (
      exponents_more A.images c.loop-i.i (c.loop-i.i + 1 - 1) c.loop-i.total c.exponents-total.result c.image.result.now (omega arith)
          (omega (arith, c.loop-i-test.true)) c.loop-i.invariant.0 c.image.ensures c.exponents-total.ensures.total,
      omega (arith, c.exponents-total.ensures.limit),
    )
