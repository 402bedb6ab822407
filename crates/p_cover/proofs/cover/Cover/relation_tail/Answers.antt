use Rattle.std.proofs.Common.{◌≡◌, ℕ, List, map, ap, sym, ◌∙◌, subst}
use Rattle.std.proofs.lemmas.Bool.{iff_false}
use Rattle.pq_base.specs.Answer.{Definition as Source}
use Rattle.pc_presentation.specs.Relation.{IsRelation}
use Rattle.pc_presentation.specs.Pcp.{TailedPresentation, tail_of}
use Rattle.pc_presentation.specs.Definition.{definition_of}
use Rattle.p_cover.proofs.CoverTails.{tail_of-covering, no_relation}
use Rattle.p_cover.proofs.cover.Cover.relation_tail.Goals as goal

pub returns-then-is_relation : goal.returns-then-is_relation
returns-then-is_relation c =
    let A = c.self.inside.answer in
    let ds : List Source = map definition_of c.self.inside.sources.items in
    let rank : c.rank.result ≡ A.presentation.rank =
    c.rank.ensures.rank ∙ ap (λ (T : TailedPresentation). T.presentation.rank) c.self.invariant.0 in
    let relation : IsRelation A.presentation.rank c.args.r =
    subst (λ (n : ℕ). IsRelation n c.args.r) rank (c.is_relation.ensures.0 c.if-is_relation.true) in
    rw (← c.self.view_is)
    (c.tail.ensures ∙ ap (λ (T : TailedPresentation). tail_of T c.args.r) c.self.invariant.0 ∙ tail_of-covering A ds c.args.r relation)

pub returns-else-is_relation : goal.returns-else-is_relation
returns-else-is_relation c =
    let A = c.self.inside.answer in
    let ds : List Source = map definition_of c.self.inside.sources.items in
    let rank : c.rank.result ≡ A.presentation.rank =
    c.rank.ensures.rank ∙ ap (λ (T : TailedPresentation). T.presentation.rank) c.self.invariant.0 in
    rw (← c.self.view_is)
    (sym (no_relation A ds c.self.invariant.2.sources c.args.r
    (λ h. iff_false c.is_relation.ensures c.if-is_relation.false (subst (λ (n : ℕ). IsRelation n c.args.r) (sym rank) h))))
