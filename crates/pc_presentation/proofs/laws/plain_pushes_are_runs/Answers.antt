-- The law is the lemma of the same name.
use Rattle.pc_presentation.proofs.consistent.Consistency.{plain_pushes_are_runs}
use Rattle.pc_presentation.proofs.laws.plain_pushes_are_runs.Goals as goal

pub returns : goal.returns
returns c = plain_pushes_are_runs
