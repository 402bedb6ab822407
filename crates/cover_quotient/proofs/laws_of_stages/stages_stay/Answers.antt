-- The law is the lemma of the same name.
use Rattle.cover_quotient.proofs.stages.NextStages.{stages_stay}
use Rattle.cover_quotient.proofs.laws_of_stages.stages_stay.Goals as goal

pub returns : goal.returns
returns c = stages_stay
