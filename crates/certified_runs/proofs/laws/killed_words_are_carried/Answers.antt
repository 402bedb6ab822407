-- The law is the lemma of the same name.
use Rattle.certified_runs.proofs.CertifiedRuns.{killed_words_are_carried}
use Rattle.certified_runs.proofs.laws.killed_words_are_carried.Goals as goal

pub returns : goal.returns
returns c = killed_words_are_carried
