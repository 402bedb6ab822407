-- The law is the lemma of the same name.
use Rattle.pc_presentation.proofs.consistent.ConsistentOverlaps.{overlaps_over_consistent_base}
use Rattle.pc_presentation.proofs.laws.overlaps_over_consistent_base.Goals as goal

pub returns : goal.returns
returns c = overlaps_over_consistent_base
