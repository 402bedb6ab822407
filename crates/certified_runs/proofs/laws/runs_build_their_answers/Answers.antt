-- The law is the lemma of the same name.
use Rattle.certified_runs.proofs.CertifiedRuns.{runs_build_their_answers}
use Rattle.certified_runs.proofs.laws.runs_build_their_answers.Goals as goal

pub returns : goal.returns
returns c = runs_build_their_answers
