-- The law is proved of the definitions alone.
use Rattle.pq_run.proofs.TooLargeRanks.{one_too_large, one_large_sample}
use Rattle.pq_run.proofs.laws.one_too_large.Goals as goal

pub returns-clause-input : goal.returns-clause-input
returns-clause-input c = one_too_large

pub returns-clause-sample : goal.returns-clause-sample
returns-clause-sample c = one_large_sample
