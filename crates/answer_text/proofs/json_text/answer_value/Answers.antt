use Rattle.std.proofs.Common.{◌≡◌, [], ◌∷◌, ℕ, ap, ap₂, ◌∙◌}
use Rattle.serde_json.specs.Data.{object}
use Rattle.serde_json.specs.View.{members_view}
use Rattle.serde_json.proofs.Views.{view-Object}
use Rattle.pq_base.specs.Presentation.{Presentation}
use Rattle.pq_base.specs.Answer.{Answer}
use Rattle.answer_text.specs.AnswerData.{number_data, list_data}
use Rattle.answer_text.proofs.AnswerMembers.{put-members, members-same}
use Rattle.answer_text.proofs.json_text.answer_value.Goals as goal

pub returns : goal.returns
returns c =
    let A : Answer = c.args.answer.now in
    let prime : c.value-prime.result ≡ A.presentation.prime =
    c.value-prime.ensures.value ∙ c.prime.ensures ∙ ap (λ (P : Presentation). P.prime) c.pcp.ensures.presentation in
    let rank : c.rank-rank.result ≡ A.presentation.rank =
    c.rank-rank.ensures.rank ∙ ap (λ (P : Presentation). P.rank) c.pcp-2.ensures.presentation in
    let listed = put-members _ _ _ _ _ _ _ _ _ _ _ _ _ _ _ _ _ _ _ (ap members_view c.new-members.ensures.empty)
    c.in_ok-put.ensures.ok c.in_ok-put-2.ensures.ok c.in_ok-put-3.ensures.ok c.in_ok-put-4.ensures.ok c.in_ok-put-5.ensures.ok
    c.in_ok-put-6.ensures.ok c.in_ok-put-7.ensures.ok c.in_ok-put-8.ensures.ok c.in_ok-put-9.ensures.ok in
    let same =
    members-same _ _ _ _ _ _ _ _ _ _ _ _ _ _ _ _ _ _ (c.from.ensures ∙ ap number_data c.class.ensures) c.in_ok-commutators_value.ensures
    c.in_ok-definitions_value.ensures
    c.in_ok-images_value.ensures
    (c.in_ok-order_value.ensures ∙ ap₂ (λ (p n : ℕ). list_data (number_data p ∷ number_data n ∷ [])) prime rank)
    c.in_ok-powers_value.ensures
    (c.from-2.ensures ∙ ap number_data prime) (c.from-3.ensures ∙ ap number_data rank) c.in_ok-weights_value.ensures in
    view-Object c.put-9.new.map ∙ ap object (listed ∙ same)
