use Rattle.std.proofs.Common.{◌≤◌, ap, arith}
use Rattle.pq_base.specs.Limits.{max_rank}
use Rattle.pc_presentation.specs.Pcp.{TailedPresentation}
use Rattle.p_cover.proofs.WantMembers.{few_in_part}
use Rattle.tower.proofs.rows.Rows.over.Goals as goal

pub overflow_add-tails : goal.overflow_add-tails
overflow_add-tails c =
    let is = c.pcp-pcp.ensures.cover in
    let same = ap (λ (T : TailedPresentation). T.presentation.rank) c.pcp-pcp.ensures.presentation in
    let limit : c.args.cover.now.answer.presentation.rank ≤ max_rank = omega (arith, same, c.rank-rank.ensures.presentation.rank_limit) in
    let few = few_in_part c.args.cover.now.answer limit is.answer.name_limit is.sources in
    let count = c.tails-tails.ensures in
    omega arith
