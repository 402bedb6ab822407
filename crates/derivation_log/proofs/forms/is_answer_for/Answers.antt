use Rattle.std.proofs.Common.{sym, ap, ◌∙◌}
use Rattle.std.specs.Cmp.Lexicographic.{bytes_decides}
use Rattle.std.proofs.lemmas.Slice.Eq.{slice_eq-Decides}
use Rattle.pq_base.specs.Presentation.{Presentation}
use Rattle.derivation_log.proofs.forms.is_answer_for.Goals as goal

pub returns-then-value : goal.returns-then-value
returns-then-value c =
    let prime =
    sym (ap (λ (P : Presentation). P.prime) c.pcp.ensures.presentation) ∙ sym c.prime.ensures ∙ sym c.value.ensures.value
    ∙ c.if-value.true ∙ c.value-2.ensures.value in
    let names = slice_eq-Decides bytes_decides c.names.result.now c.names-then-value.result.now c.eq.result c.eq.ensures in (
      λ e. (prime, sym c.names.ensures ∙ names.0 e ∙ c.names-then-value.ensures.names),
      λ both. names.1 (c.names.ensures ∙ both.1 ∙ sym c.names-then-value.ensures.names),
    )
