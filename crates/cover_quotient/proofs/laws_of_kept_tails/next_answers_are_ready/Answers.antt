-- The law is the lemma of the same name.
use Rattle.cover_quotient.proofs.next_answers.NextReady.{next_answers_are_ready}
use Rattle.cover_quotient.proofs.laws_of_kept_tails.next_answers_are_ready.Goals as goal

pub returns : goal.returns
returns c = next_answers_are_ready
