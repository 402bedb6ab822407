use Rattle.derivation_log.proofs.HeldSums.{held_lines_are_sums as proved}
use Rattle.derivation_log.proofs.laws.held_lines_are_sums.Goals as goal

pub returns : goal.returns
returns c = proved
