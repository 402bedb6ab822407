use Rattle.derivation_log.proofs.FirstParts.{valid_certificates_have_no_first_part as proved}
use Rattle.derivation_log.proofs.laws.valid_certificates_have_no_first_part.Goals as goal

pub returns : goal.returns
returns c = proved
