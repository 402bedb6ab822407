-- The law is the lemma of the same name.
use Rattle.unique_answers.proofs.UniqueAnswers.{canonical_answers_are_determined_by_what_dies}
use Rattle.unique_answers.proofs.laws.canonical_answers_are_determined_by_what_dies.Goals as goal

pub returns : goal.returns
returns c = canonical_answers_are_determined_by_what_dies
