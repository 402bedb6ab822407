-- The law is proved of the definitions alone.
use Rattle.pq_run.proofs.CheckedOutputs.{checks_what_is_certified}
use Rattle.pq_run.proofs.laws.checks_what_is_certified.Goals as goal

pub returns : goal.returns
returns c = checks_what_is_certified
