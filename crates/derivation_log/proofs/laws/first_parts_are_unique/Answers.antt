use Rattle.derivation_log.proofs.FirstParts.{first_parts_are_unique as proved}
use Rattle.derivation_log.proofs.laws.first_parts_are_unique.Goals as goal

pub returns : goal.returns
returns c = proved
