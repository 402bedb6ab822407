-- The law is proved of the definitions alone.
use Rattle.pq_run.proofs.Outputs.{one_output_one_answer}
use Rattle.pq_run.proofs.laws.one_output_one_answer.Goals as goal

pub returns : goal.returns
returns c = one_output_one_answer
