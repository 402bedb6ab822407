-- The law is the lemma of the same name.
use Rattle.certified_runs.proofs.CertifiedRuns.{steps_have_plain_rows}
use Rattle.certified_runs.proofs.laws.steps_have_plain_rows.Goals as goal

pub returns : goal.returns
returns c = steps_have_plain_rows
