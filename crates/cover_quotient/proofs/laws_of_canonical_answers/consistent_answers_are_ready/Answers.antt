-- The law is the lemma of the same name.
use Rattle.cover_quotient.proofs.canonical_answers.ReadyAnswers.{consistent_answers_are_ready}
use Rattle.cover_quotient.proofs.laws_of_canonical_answers.consistent_answers_are_ready.Goals as goal

pub returns : goal.returns
returns c = consistent_answers_are_ready
