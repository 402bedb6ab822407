-- The law is the lemma of the same name.
use Rattle.cover_quotient.proofs.stages.FittedSteps.{fitted_answers_stay}
use Rattle.cover_quotient.proofs.laws_of_stages.fitted_answers_stay.Goals as goal

pub returns : goal.returns
returns c = fitted_answers_stay
