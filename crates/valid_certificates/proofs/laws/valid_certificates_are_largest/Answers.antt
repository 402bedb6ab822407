-- The law is the lemma of the same name.
use Rattle.valid_certificates.proofs.ValidCertificates.{valid_certificates_are_largest}
use Rattle.valid_certificates.proofs.laws.valid_certificates_are_largest.Goals as goal

pub returns : goal.returns
returns c = valid_certificates_are_largest
