-- The law is the lemma of the same name.
use Rattle.cover_quotient.proofs.stages.FittedSteps.{stages_are_fitted}
use Rattle.cover_quotient.proofs.laws_of_stages.stages_are_fitted.Goals as goal

pub returns : goal.returns
returns c = stages_are_fitted
