-- The law is the lemma of the same name.
use Rattle.certified_runs.proofs.CertifiedRuns.{overlaps_of_consistent_answers_agree}
use Rattle.certified_runs.proofs.laws.overlaps_of_consistent_answers_agree.Goals as goal

pub returns : goal.returns
returns c = overlaps_of_consistent_answers_agree
