-- The law is proved of the definitions alone.
use Rattle.pq_run.proofs.OneRefusals.{one_refusal}
use Rattle.pq_run.proofs.laws.one_refusal.Goals as goal

pub returns : goal.returns
returns c = one_refusal
