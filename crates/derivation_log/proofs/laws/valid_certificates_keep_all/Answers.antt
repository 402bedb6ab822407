use Rattle.derivation_log.proofs.ValidParts.{valid_certificates_keep_all as proved}
use Rattle.derivation_log.proofs.laws.valid_certificates_keep_all.Goals as goal

pub returns : goal.returns
returns c = proved
