-- The law is the lemma of the same name.
use Rattle.pc_presentation.proofs.normal_tables.LevelWords.{tables_have_the_class}
use Rattle.pc_presentation.proofs.laws.tables_have_the_class.Goals as goal

pub returns : goal.returns
returns c = tables_have_the_class
