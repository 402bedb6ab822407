use Rattle.p_cover.proofs.WantParts as Parts
use Rattle.p_cover.proofs.laws.qualifying_sources_come_first.Goals as goal

pub returns : goal.returns
returns c = Parts.qualifying_sources_come_first
