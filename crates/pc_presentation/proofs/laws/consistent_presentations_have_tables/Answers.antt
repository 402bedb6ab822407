-- The law is the lemma of the same name.
use Rattle.pc_presentation.proofs.normal_tables.NormalTableLaws.{consistent_presentations_have_tables}
use Rattle.pc_presentation.proofs.laws.consistent_presentations_have_tables.Goals as goal

pub returns : goal.returns
returns c = consistent_presentations_have_tables
