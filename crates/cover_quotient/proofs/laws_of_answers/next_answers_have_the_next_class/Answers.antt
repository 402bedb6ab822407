-- The law is the lemma of the same name.
use Rattle.cover_quotient.proofs.next_answers.AnswerLaws.{next_answers_have_the_next_class}
use Rattle.cover_quotient.proofs.laws_of_answers.next_answers_have_the_next_class.Goals as goal

pub returns : goal.returns
returns c = next_answers_have_the_next_class
