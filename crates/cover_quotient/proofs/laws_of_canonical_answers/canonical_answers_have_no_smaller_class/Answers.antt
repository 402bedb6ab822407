-- The law is the lemma of the same name.
use Rattle.cover_quotient.proofs.canonical_answers.ExactClasses.{canonical_answers_have_no_smaller_class}
use Rattle.cover_quotient.proofs.laws_of_canonical_answers.canonical_answers_have_no_smaller_class.Goals as goal

pub returns : goal.returns
returns c = canonical_answers_have_no_smaller_class
