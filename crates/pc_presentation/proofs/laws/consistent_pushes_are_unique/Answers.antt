-- The law is the lemma of the same name.
use Rattle.pc_presentation.proofs.consistent.ConsistentPushes.{consistent_pushes_are_unique}
use Rattle.pc_presentation.proofs.laws.consistent_pushes_are_unique.Goals as goal

pub returns : goal.returns
returns c = consistent_pushes_are_unique
