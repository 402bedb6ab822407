-- The law is proved of the definitions alone.
use Rattle.pq_run.proofs.OneOutputs.{one_output}
use Rattle.pq_run.proofs.laws.one_output.Goals as goal

pub returns : goal.returns
returns c = one_output
