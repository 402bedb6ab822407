-- The law is the lemma of the same name.
use Rattle.cover_quotient.proofs.stages.FirstStages.{stages_of_more_relators}
use Rattle.cover_quotient.proofs.laws_of_stages.stages_of_more_relators.Goals as goal

pub returns : goal.returns
returns c = stages_of_more_relators
