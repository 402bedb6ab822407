-- The law is the lemma of the same name.
use Rattle.certified_runs.proofs.FewSources.{runs_name_few_sources}
use Rattle.certified_runs.proofs.laws.runs_name_few_sources.Goals as goal

pub returns : goal.returns
returns c = runs_name_few_sources
