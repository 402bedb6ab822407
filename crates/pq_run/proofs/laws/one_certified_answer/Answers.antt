-- The law is proved of the definitions alone.
use Rattle.pq_run.proofs.OneOutputs.{one_output_one_certificate, one_certified_answer, certifies_what_is_written}
use Rattle.pq_run.proofs.laws.one_certified_answer.Goals as goal

pub returns-clause-certificate : goal.returns-clause-certificate
returns-clause-certificate c = one_output_one_certificate

pub returns-clause-answer : goal.returns-clause-answer
returns-clause-answer c = one_certified_answer

pub returns-clause-written : goal.returns-clause-written
returns-clause-written c = certifies_what_is_written
