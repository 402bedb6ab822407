-- The law is the lemma of the same name.
use Rattle.certified_runs.proofs.CertifiedRuns.{certificates_of_runs_are_valid}
use Rattle.certified_runs.proofs.laws.certificates_of_runs_are_valid.Goals as goal

pub returns : goal.returns
returns c = certificates_of_runs_are_valid
