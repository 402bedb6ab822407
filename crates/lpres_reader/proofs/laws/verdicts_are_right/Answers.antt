use Rattle.lpres_reader.proofs.laws.verdicts_are_right.Goals as goal
use Rattle.lpres_reader.proofs.faults.ReaderLaws as law

pub returns : goal.returns
returns c = law.verdicts_are_right
