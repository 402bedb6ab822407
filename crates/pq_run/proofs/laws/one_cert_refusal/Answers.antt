-- The law is proved of the definitions alone.
use Rattle.pq_run.proofs.CheckedOutputs.{one_cert_refusal}
use Rattle.pq_run.proofs.laws.one_cert_refusal.Goals as goal

pub returns : goal.returns
returns c = one_cert_refusal
