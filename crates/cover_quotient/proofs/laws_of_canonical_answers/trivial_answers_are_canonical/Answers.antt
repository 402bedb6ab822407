-- The law is the lemma of the same name.
use Rattle.cover_quotient.proofs.canonical_answers.CanonicalAnswers.{trivial_answers_are_canonical}
use Rattle.cover_quotient.proofs.laws_of_canonical_answers.trivial_answers_are_canonical.Goals as goal

pub returns : goal.returns
returns c = trivial_answers_are_canonical
