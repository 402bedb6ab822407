-- The law is the lemma of the same name.
use Rattle.pc_presentation.proofs.rows.RowedClass.{classes_grow_by_one_with_rows}
use Rattle.pc_presentation.proofs.rowed_laws.classes_grow_by_one_with_rows.Goals as goal

pub returns : goal.returns
returns c = classes_grow_by_one_with_rows
