-- The law is the lemma of the same name.
use Rattle.tower.proofs.EnoughRelators.{enough_and_fixed_are_obeyed_alike}
use Rattle.tower.proofs.laws.enough_and_fixed_are_obeyed_alike.Goals as goal

pub returns : goal.returns
returns c = enough_and_fixed_are_obeyed_alike
