use Rattle.cover_quotient.specs.NextAnswer.{combined_answer}
use Rattle.cover_quotient.specs.NextParts.{IsDraft}
use Rattle.cover_quotient.proofs.next_presentation.give_commutators_of.Given as goal

abbrev pub invariant-loop-i : goal.invariant-loop-i
invariant-loop-i l =
    IsDraft (combined_answer l.cover l.combinations) l.cover.answer.presentation.rank l.cover.answer.presentation.rank l.k l.i l.builder
