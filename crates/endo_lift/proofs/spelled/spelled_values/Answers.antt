use Rattle.std.proofs.Common.{◌≡◌, ◌+◌, ◌-◌, ◌<◌, ℕ, List, [], ◌∷◌, ◌++◌, length, ap, ◌∙◌, arith, length-append}
use Rattle.pq_base.specs.Answer.{Answer, definition_at}
use Rattle.pq_base.specs.Presentation.{Presentation}
use Rattle.pc_presentation.specs.Tailed.{Element}
use Rattle.pc_presentation.specs.Definition.{definition_of}
use Rattle.endo_lift.proofs.SpelledValues.{spelled-more, next-spelled}
use Rattle.endo_lift.proofs.spelled.spelled_values.Goals as goal

pub loop-k-preserved : goal.loop-k-preserved
loop-k-preserved g c =
    let C = c.args.cover.now in
    let endo = c.args.endo.now in
    let es = c.loop-k.elements.items in
    let e = c.left_value.new.out in
    let k = c.loop-k.k in
    let inv = c.loop-k.invariant in
    let rank : c.rank-rank.result ≡ C.answer.presentation.rank =
    c.rank-rank.ensures.rank ∙ ap (λ (P : Presentation). P.rank) c.pcp.ensures.presentation
    ∙ ap (λ (A : Answer). A.presentation.rank) c.answer.ensures in
    let inside : k < C.answer.presentation.rank = omega (arith, c.loop-k-test.true, rank) in
    let place : k + 1 - 1 ≡ k = omega arith in
    let definition : definition_of c.definition-source.result ≡ definition_at C.answer k =
    c.definition-source.ensures ∙ ap (λ (A : Answer). definition_at A (k + 1 - 1)) c.answer-in-loop-k.ensures
    ∙ ap (definition_at C.answer) place in
    let more : c.push.new.self.items ≡ es ++ e ∷ [] = c.in_ok-push.ensures.items in
    let long : length (es ++ e ∷ []) ≡ length es + 1 = omega (arith, length-append es (e ∷ [])) in (
      c.left_value.ensures.scratch,
      ap (λ (fs : List Element). length fs) more ∙ long ∙ ap (λ (n : ℕ). n + 1) inv.1,
      spelled-more C endo es inv.2 c.push.new.self.items e more
          (next-spelled C endo c.pcp-in-loop-k.ensures.cover.answer k (length es) (definition_of c.definition-source.result) e inside inv.1
          definition c.left_value.ensures.value),
    )
