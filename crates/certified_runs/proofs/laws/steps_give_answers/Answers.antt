-- The law is the lemma of the same name.
use Rattle.certified_runs.proofs.CertifiedRuns.{steps_give_answers}
use Rattle.certified_runs.proofs.laws.steps_give_answers.Goals as goal

pub returns : goal.returns
returns c = steps_give_answers
