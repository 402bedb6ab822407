use Rattle.cover_quotient.specs.NextAnswer.{combined_answer}
use Rattle.cover_quotient.specs.NextParts.{IsDraft}
use Rattle.cover_quotient.proofs.next_presentation.give_commutators.Given as goal

abbrev pub invariant-loop-k : goal.invariant-loop-k
invariant-loop-k l =
    IsDraft (combined_answer l.cover l.combinations) l.cover.answer.presentation.rank l.cover.answer.presentation.rank l.k 0 l.builder
