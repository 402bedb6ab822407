-- The law is the lemma of the same name.
use Rattle.tower.proofs.NamedQuotients.{named_parts_have_the_answers}
use Rattle.tower.proofs.laws.named_parts_have_the_answers.Goals as goal

pub returns : goal.returns
returns c = named_parts_have_the_answers
