-- The law is the lemma of the same name.
use Rattle.tower.proofs.NamedQuotients.{same_relators_give_same_answers}
use Rattle.tower.proofs.laws.same_relators_give_same_answers.Goals as goal

pub returns : goal.returns
returns c = same_relators_give_same_answers
