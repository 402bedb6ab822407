use Rattle.std.proofs.Common.{All, ℕ, List, subst}
use Rattle.pq_base.specs.Name.{IsName}
use Rattle.answer_text.proofs.Limits.{answer-writable, AreNames-All}
use Rattle.answer_text.proofs.reading.keeps_limits.Goals as goal

pub returns : goal.returns
returns c =
    answer-writable c.args.answer.now c.pcp.result.now c.pcp.ensures.presentation c.rank-rank.ensures.presentation c.pcp.ensures.answer
    (AreNames-All c.args.answer.now.names (subst (λ (ns : List (List ℕ)). All IsName ns) c.names.ensures c.are_names.ensures))
