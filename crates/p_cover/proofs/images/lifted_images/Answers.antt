use Rattle.std.proofs.Common.{◌≡◌, ◌≤◌, ℕ, List, length, ap, sym, ◌∙◌, subst, arith}
use Rattle.std.specs.Prelude.{All}
use Rattle.pq_base.specs.Answer.{Answer}
use Rattle.pc_presentation.specs.Pcp.{IsTailedPresentation}
use Rattle.pc_presentation.specs.Tailed.{Element, IsElement}
use Rattle.p_cover.specs.Covers.{cover_presentation}
use Rattle.p_cover.proofs.LiftedImages.{lifted-more, all_lifted, lifted_images-elements}
use Rattle.p_cover.proofs.images.lifted_images.Goals as goal

pub loop-k-preserved : goal.loop-k-preserved
loop-k-preserved c =
    let C = c.args.cover.now in
    let names : length c.names.result.now ≡ length C.answer.names =
    ap (length {A = List ℕ}) (c.names.ensures ∙ ap (λ (A : Answer). A.names) c.answer-2.ensures) in
    lifted-more C c.pcp.ensures.cover.answer c.loop-k.images.items c.push.new.self.items c.in_ok-lifted_image.field-0 c.loop-k.k
    (omega (arith, c.loop-k-test.true)) c.loop-k.invariant c.in_ok-lifted_image.ensures c.in_ok-push.ensures.items

pub returns-clause-images : goal.returns-clause-images
returns-clause-images c =
    let C = c.args.cover.now in
    let names : length c.names.result.now ≡ length C.answer.names =
    ap (length {A = List ℕ}) (c.names.ensures ∙ ap (λ (A : Answer). A.names) c.answer-2.ensures) in
    let all : length C.answer.names ≤ c.loop-k.k = omega (arith, c.loop-k-test.false) in
    all_lifted C c.pcp.ensures.cover.answer c.loop-k.images.items c.loop-k.k all c.loop-k.invariant

pub returns-clause-elements : goal.returns-clause-elements
returns-clause-elements c =
    let C = c.args.cover.now in
    let names : length c.names.result.now ≡ length C.answer.names =
    ap (length {A = List ℕ}) (c.names.ensures ∙ ap (λ (A : Answer). A.names) c.answer-2.ensures) in
    let all : length C.answer.names ≤ c.loop-k.k = omega (arith, c.loop-k-test.false) in
    let tailed : IsTailedPresentation (cover_presentation C) =
    subst IsTailedPresentation c.pcp.ensures.presentation c.rank-conditions.ensures.presentation in
    subst (λ (es : List Element). All (IsElement (cover_presentation C)) es)
    (sym (all_lifted C c.pcp.ensures.cover.answer c.loop-k.images.items c.loop-k.k all c.loop-k.invariant))
    (lifted_images-elements C c.pcp.ensures.cover.answer tailed)
