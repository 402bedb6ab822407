-- The law is the lemma of the same name.
use Rattle.pc_presentation.proofs.consistent.ConsistentPushes.{pushes_over_consistent_base}
use Rattle.pc_presentation.proofs.laws.pushes_over_consistent_base.Goals as goal

pub returns : goal.returns
returns c = pushes_over_consistent_base
