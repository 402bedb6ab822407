-- The lines one after the other.
use Rattle.std.proofs.Common.{◌≡◌, ℕ, Vec, Global, ap, ◌∙◌, append_assoc}
use Rattle.pq_base.specs.Presentation.{Presentation}
use Rattle.pq_base.specs.Answer.{Answer}
use Rattle.samples.proofs.SummaryTexts.{summary_written}
use Rattle.samples.proofs.summaries.summary.Goals as goal

pub returns : goal.returns
returns c =
    let A : Answer = c.args.answer.now in
    let prime : c.value-prime.result ≡ A.presentation.prime =
    c.value-prime.ensures.value ∙ c.prime.ensures ∙ ap (λ (P : Presentation). P.prime) c.pcp.ensures.presentation in
    let rank : c.rank-rank.result ≡ A.presentation.rank =
    c.rank-rank.ensures.rank ∙ ap (λ (P : Presentation). P.rank) c.pcp-2.ensures.presentation in
    ap (λ (v : Vec ℕ Global). v.items) c.into_bytes.ensures.value
    ∙ rw c.in_ok-text.ensures.ok
    (simp append_assoc (summary_written c.args.n A _ _ _ _ _ prime c.class-class.ensures rank c.in_ok-factors.ensures
    c.exponent_sum-images.ensures))
