-- The law is the lemma of the same name.
use Rattle.valid_certificates.proofs.ValidCertificates.{runs_build_answers}
use Rattle.valid_certificates.proofs.laws.runs_build_answers.Goals as goal

pub returns : goal.returns
returns c = runs_build_answers
