-- The law is the lemma of the same name.
use Rattle.certified_runs.proofs.CertifiedRuns.{runs_are_not_short}
use Rattle.certified_runs.proofs.laws.runs_are_not_short.Goals as goal

pub returns : goal.returns
returns c = runs_are_not_short
