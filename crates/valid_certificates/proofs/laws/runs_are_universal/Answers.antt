-- The law is the lemma of the same name.
use Rattle.valid_certificates.proofs.ValidCertificates.{runs_are_universal}
use Rattle.valid_certificates.proofs.laws.runs_are_universal.Goals as goal

pub returns : goal.returns
returns c = runs_are_universal
