-- The law is the lemma of the same name.
use Rattle.valid_certificates.proofs.ValidCertificates.{steps_reach_answers}
use Rattle.valid_certificates.proofs.laws.steps_reach_answers.Goals as goal

pub returns : goal.returns
returns c = steps_reach_answers
