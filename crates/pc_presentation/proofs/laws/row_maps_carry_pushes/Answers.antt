-- The law is the lemma of the same name.
use Rattle.pc_presentation.proofs.rows.RowMaps.{row_maps_carry_pushes}
use Rattle.pc_presentation.proofs.laws.row_maps_carry_pushes.Goals as goal

pub returns : goal.returns
returns c = row_maps_carry_pushes
