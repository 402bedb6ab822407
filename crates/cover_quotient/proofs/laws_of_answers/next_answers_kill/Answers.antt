-- The law is the lemma of the same name.
use Rattle.cover_quotient.proofs.next_answers.AnswerLaws.{next_answers_kill}
use Rattle.cover_quotient.proofs.laws_of_answers.next_answers_kill.Goals as goal

pub returns : goal.returns
returns c = next_answers_kill
