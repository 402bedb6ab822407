use Rattle.consistency.proofs.OverlapList.{each_overlap_once}
use Rattle.consistency.proofs.laws.each_overlap_once.Goals as goal

pub returns : goal.returns
returns c = each_overlap_once
