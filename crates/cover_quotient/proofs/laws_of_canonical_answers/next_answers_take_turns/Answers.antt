-- The law is the lemma of the same name.
use Rattle.cover_quotient.proofs.canonical_answers.CanonicalSteps.{next_answers_take_turns}
use Rattle.cover_quotient.proofs.laws_of_canonical_answers.next_answers_take_turns.Goals as goal

pub returns : goal.returns
returns c = next_answers_take_turns
