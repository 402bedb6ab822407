-- The law is the lemma of the same name.
use Rattle.cover_quotient.proofs.stages.FirstStages.{stages_have_their_class}
use Rattle.cover_quotient.proofs.laws_of_stages.stages_have_their_class.Goals as goal

pub returns : goal.returns
returns c = stages_have_their_class
