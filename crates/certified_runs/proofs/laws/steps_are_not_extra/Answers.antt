-- The law is the lemma of the same name.
use Rattle.certified_runs.proofs.CertifiedRuns.{steps_are_not_extra}
use Rattle.certified_runs.proofs.laws.steps_are_not_extra.Goals as goal

pub returns : goal.returns
returns c = steps_are_not_extra
