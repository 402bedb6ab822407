-- The law is the lemma of the same name.
use Rattle.certified_runs.proofs.CertifiedRuns.{endomorphisms_induce_plainly}
use Rattle.certified_runs.proofs.laws.endomorphisms_induce_plainly.Goals as goal

pub returns : goal.returns
returns c = endomorphisms_induce_plainly
