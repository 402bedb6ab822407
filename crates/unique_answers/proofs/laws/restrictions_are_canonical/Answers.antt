-- The law is the lemma of the same name.
use Rattle.unique_answers.proofs.RestrictedAnswers.{restrictions_are_canonical}
use Rattle.unique_answers.proofs.laws.restrictions_are_canonical.Goals as goal

pub returns : goal.returns
returns c = restrictions_are_canonical
