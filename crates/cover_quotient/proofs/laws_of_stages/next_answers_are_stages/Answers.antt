-- The law is the lemma of the same name.
use Rattle.cover_quotient.proofs.stages.NextStages.{next_answers_are_stages}
use Rattle.cover_quotient.proofs.laws_of_stages.next_answers_are_stages.Goals as goal

pub returns : goal.returns
returns c = next_answers_are_stages
