use Rattle.std.proofs.Common.{◌≡◌, ◌+◌, ◌-◌, ◌++◌, [], ◌∷◌, ℕ, List, get_or, length, ap, ◌∙◌, arith}
use Rattle.pq_base.specs.Presentation.{Presentation}
use Rattle.pq_base.specs.Answer.{Answer, IsAnswer, definition_at}
use Rattle.answer_text.specs.AnswerText.{generator_line}
use Rattle.pq_base.proofs.LineLaws.{text_of_lines-next}
use Rattle.answer_text.proofs.lines.NextLines.{generator_lines-next, generator_line-same}
use Rattle.answer_text.proofs.writing.push_generators.Goals as goal

pub loop-k-preserved : goal.loop-k-preserved
loop-k-preserved c =
    let k : ℕ = c.loop-k.k in
    let A : Answer = c.args.answer.now in
    let is : IsAnswer A = c.pcp.ensures.answer in
    let rank : c.rank-rank.result ≡ A.presentation.rank =
    c.rank-rank.ensures.rank ∙ ap (λ (P : Presentation). P.rank) c.pcp-2.ensures.presentation in
    let weights : length A.weights ≡ A.presentation.rank = is.weight_count in
    let definitions : length A.definitions ≡ A.presentation.rank = is.definition_count in
    let prime : c.value-prime.result ≡ A.presentation.prime =
    c.value-prime.ensures.value ∙ c.prime.ensures ∙ ap (λ (P : Presentation). P.prime) c.pcp.ensures.presentation in
    let weight : c.weight-weight.result ≡ get_or A.weights (k + 1 - 1) 0 =
    c.weight-weight.ensures ∙ ap (λ (ws : List ℕ). get_or ws (k + 1 - 1) 0) c.pcp-in-loop-k.ensures.weights in
    let line =
    generator_line-same _ A.presentation.prime _ A.names (k + 1) _ (get_or A.weights (k + 1 - 1) 0) _
    (definition_at A (k + 1 - 1)) prime c.names.ensures weight c.definition.ensures in
    let written = c.in_ok-push_generator_line.ensures ∙ ap (λ (l : List ℕ). c.loop-k.out.items ++ (l ++ 10 ∷ [])) line in
    let next =
    generator_lines-next A.presentation.prime A.names k (k + 1) (k + 1 - 1) A.weights A.definitions (omega arith) (omega arith)
    (omega arith) (omega arith) in
    text_of_lines-next c.loop-k.out.items c.push_generator_line.new.out.items _
    (generator_line A.presentation.prime A.names (k + 1) (get_or A.weights (k + 1 - 1) 0) (definition_at A (k + 1 - 1))) _ _ written next
    c.loop-k.invariant
