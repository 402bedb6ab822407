use Rattle.derivation_log.proofs.HeldCombinations.{held_lines_make_what_the_basis_makes as proved}
use Rattle.derivation_log.proofs.laws.held_lines_make_what_the_basis_makes.Goals as goal

pub returns : goal.returns
returns c = proved
