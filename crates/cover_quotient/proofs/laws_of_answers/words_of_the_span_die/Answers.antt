-- The law is the lemma of the same name.
use Rattle.cover_quotient.proofs.next_answers.AnswerLaws.{words_of_the_span_die}
use Rattle.cover_quotient.proofs.laws_of_answers.words_of_the_span_die.Goals as goal

pub returns : goal.returns
returns c = words_of_the_span_die
