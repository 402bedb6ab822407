use Rattle.std.proofs.Common.{◌≡◌, ◌+◌, ◌-◌, [], ℕ, List, get_or, length, ap, ◌∙◌, arith}
use Rattle.pq_base.specs.Presentation.{Presentation}
use Rattle.pq_base.specs.Answer.{Answer}
use Rattle.answer_text.specs.AnswerText.{commutator_row_lines}
use Rattle.pq_base.proofs.LineLaws.{text_of_lines-part}
use Rattle.answer_text.proofs.lines.NextLines.{commutator_lines-next}
use Rattle.answer_text.proofs.writing.push_commutators.Goals as goal

pub loop-k-preserved : goal.loop-k-preserved
loop-k-preserved c =
    let k : ℕ = c.loop-k.k in
    let A : Answer = c.args.answer.now in
    let rows : List (List (List ℕ)) = A.presentation.commutators in
    let rank : c.rank-rank.result ≡ A.presentation.rank =
    c.rank-rank.ensures.rank ∙ ap (λ (P : Presentation). P.rank) c.pcp.ensures.presentation in
    let long : length rows ≡ A.presentation.rank = c.pcp.ensures.answer.presentation.commutator_count in
    let next = commutator_lines-next k (k + 1) (k + 1 - 1) rows (omega arith) (omega arith) (omega (arith, c.loop-k-test.true)) in
    text_of_lines-part c.loop-k.out.items c.push_commutator_row.new.out.items _
    (commutator_row_lines (k + 1) 0 (get_or rows (k + 1 - 1) [])) _ _ c.in_ok-push_commutator_row.ensures next c.loop-k.invariant
