-- The law is the lemma of the same name.
use Rattle.cover_quotient.proofs.canonical_answers.ClassesByWeight.{weights_give_the_class}
use Rattle.cover_quotient.proofs.laws_of_canonical_answers.weights_give_the_class.Goals as goal

pub returns : goal.returns
returns c = weights_give_the_class
