use Rattle.std.proofs.Common.{◌≡◌, ◌+◌, ◌++◌, ℕ, suc, length, replicate, refl, ap, ap₂, ◌∙◌, subst, arith}
use Rattle.std.proofs.lemmas.List.{length-append, length-replicate}
use Rattle.std.proofs.lemmas.Result.{IfOk-weaker}
use Rattle.pq_base.specs.Prime.{prime_value}
use Rattle.pq_base.specs.Presentation.{Presentation}
use Rattle.pq_base.specs.Answer.{Answer, class_of}
use Rattle.pc_presentation.specs.Pcp.{IsTailedPresentation}
use Rattle.pq_base.proofs.PrimeLaws.{prime_value-offered, offered-two}
use Rattle.cover_quotient.specs.NextAnswer.{combined_answer}
use Rattle.cover_quotient.specs.NextParts.{IsDraft}
use Rattle.cover_quotient.proofs.next_answers.CombinedTails.{cover_rows}
use Rattle.cover_quotient.proofs.next_answers.NextSides.{next-presentation, right_side-new}
use Rattle.cover_quotient.proofs.next_answers.NextDrafts.{draft-empty}
use Rattle.cover_quotient.proofs.next_presentation.empty_builder.Goals as goal

pub returns : goal.returns
returns c =
    let C = c.args.cover.now in
    let K = c.args.combinations.now in
    let A = combined_answer C K in
    let n : ℕ = C.answer.presentation.rank in
    let p : ℕ = prime_value c.prime.result in
    let q : ℕ = length K.kept in
    let class : ℕ = suc (class_of C.answer) in
    let is = subst IsTailedPresentation c.pcp.ensures.presentation c.rank-conditions.ensures.presentation in
    let rows = cover_rows C K c.requires.combinations c.kept.ensures.combinations in
    let weights : c.deref.result.now ≡ A.weights =
    c.deref.ensures.value ∙ c.in_ok-weights.ensures
    ∙ ap₂ (λ (a : Answer) (k : ℕ). a.weights ++ replicate k (suc (class_of a))) c.answer-answer.ensures
    (ap (length {A = ℕ}) c.kept.ensures.kept) in
    let prime : p ≡ C.answer.presentation.prime =
    c.prime.ensures ∙ ap (λ (P : Presentation). P.prime) c.pcp-2.ensures.presentation
    ∙ ap (λ (a : Answer). a.presentation.prime) c.answer-answer.ensures in
    let old : length C.answer.weights ≡ n = c.pcp.ensures.cover.answer.weight_count in
    let all : length (C.answer.weights ++ replicate q class) ≡ length C.answer.weights + length (replicate q class) =
    length-append C.answer.weights (replicate q class) in
    let new : length (replicate q class) ≡ q = length-replicate q class in
    let count : length A.weights ≡ n + q = omega (arith, old, all, new) in
    IfOk-weaker c.new.result _ (IsDraft A n 0 0 0)
    (λ D e.
    draft-empty A (next-presentation C K is rows) n p 0 c.deref.result.now D (offered-two p (prime_value-offered c.prime.result))
    prime weights refl count (right_side-new C K is rows) e)
    c.new.ensures
