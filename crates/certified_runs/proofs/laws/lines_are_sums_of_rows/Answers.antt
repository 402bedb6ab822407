-- The law is the lemma of the same name.
use Rattle.certified_runs.proofs.CertifiedRuns.{lines_are_sums_of_rows}
use Rattle.certified_runs.proofs.laws.lines_are_sums_of_rows.Goals as goal

pub returns : goal.returns
returns c = lines_are_sums_of_rows
