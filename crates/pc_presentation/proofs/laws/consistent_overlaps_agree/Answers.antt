-- The law is the lemma of the same name.
use Rattle.pc_presentation.proofs.consistent.ConsistentOverlaps.{consistent_overlaps_agree}
use Rattle.pc_presentation.proofs.laws.consistent_overlaps_agree.Goals as goal

pub returns : goal.returns
returns c = consistent_overlaps_agree
