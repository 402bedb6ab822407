use Rattle.std.proofs.Common.{ℕ, List, length, map, ap, sym, ◌∙◌, subst, arith}
use Rattle.std.proofs.lemmas.List.{length-map}
use Rattle.std.proofs.lemmas.Result.{IfOk-weaker}
use Rattle.pq_base.specs.Prime.{prime_value}
use Rattle.pq_base.specs.Presentation.{Presentation}
use Rattle.pq_base.specs.Answer.{Definition as Source}
use Rattle.pq_base.proofs.PrimeLaws.{prime_value-offered, offered-two}
use Rattle.pc_presentation.specs.Definition.{definition_of}
use Rattle.p_cover.specs.Given.{IsBegun}
use Rattle.p_cover.proofs.GivenSteps.{begun-empty}
use Rattle.p_cover.proofs.given.empty_builder.Goals as goal

pub new-requires : goal.new-requires
new-requires c =
    let limit = c.rank-rank.ensures.presentation.rank_limit in
    let count = c.rank-rank.ensures.presentation.weight_count in
    let long = ap (length {A = ℕ}) c.weights.ensures in
    omega arith

pub returns : goal.returns
returns c =
    let A = c.args.answer.now in
    let ds : List Source = map definition_of c.args.sources.now in
    let p : ℕ = prime_value c.prime.result in
    IfOk-weaker c.new.result _ (IsBegun A ds 0)
    (λ b e. subst (IsBegun A ds 0) (sym e)
    (begun-empty A ds c.pcp-pcp.ensures.answer.presentation p (length c.args.sources.now) c.weights.result.now
    (offered-two p (prime_value-offered c.prime.result))
    (c.prime.ensures ∙ ap (λ (P : Presentation). P.prime) c.pcp-pcp.ensures.presentation)
    (c.weights.ensures ∙ c.pcp-pcp.ensures.weights)
    (sym (length-map c.args.sources.now definition_of)) c.pcp-pcp.ensures.answer.weight_count))
    c.new.ensures
