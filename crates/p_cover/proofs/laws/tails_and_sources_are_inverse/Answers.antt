use Rattle.p_cover.proofs.SourcesOnce as Once
use Rattle.p_cover.proofs.laws.tails_and_sources_are_inverse.Goals as goal

pub returns : goal.returns
returns c = Once.tails_and_sources_are_inverse
