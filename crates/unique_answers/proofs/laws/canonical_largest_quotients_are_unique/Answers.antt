-- The law is the lemma of the same name.
use Rattle.unique_answers.proofs.UniqueAnswers.{canonical_largest_quotients_are_unique}
use Rattle.unique_answers.proofs.laws.canonical_largest_quotients_are_unique.Goals as goal

pub returns : goal.returns
returns c = canonical_largest_quotients_are_unique
