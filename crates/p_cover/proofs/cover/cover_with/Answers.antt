use Rattle.std.proofs.Common.{◌≤◌, length, ap, arith}
use Rattle.std.proofs.lemmas.List.{length-map}
use Rattle.pq_base.specs.Limits.{max_rank}
use Rattle.pq_base.specs.Presentation.{Presentation}
use Rattle.pc_presentation.specs.declared.definition.Definition.{Definition}
use Rattle.pc_presentation.specs.Definition.{definition_of}
use Rattle.p_cover.proofs.WantMembers.{few_in_part}
use Rattle.p_cover.proofs.cover.cover_with.Goals as goal

pub presentation_with_tails-requires-clause-limit : goal.presentation_with_tails-requires-clause-limit
presentation_with_tails-requires-clause-limit c =
    let A = c.args.answer.now in
    let rank = ap (λ (P : Presentation). P.rank) c.pcp.ensures.presentation in
    let limit : A.presentation.rank ≤ max_rank = omega (arith, c.rank-rank.ensures.presentation.rank_limit) in
    let few = few_in_part A limit c.pcp.ensures.answer.name_limit c.requires in
    let long = ap (length {A = Definition}) c.deref.ensures.value in
    omega (arith, length-map c.args.sources.items definition_of)
