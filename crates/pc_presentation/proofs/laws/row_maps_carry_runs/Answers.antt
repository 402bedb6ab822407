-- The law is the lemma of the same name.
use Rattle.pc_presentation.proofs.rows.RowMaps.{row_maps_carry_runs}
use Rattle.pc_presentation.proofs.laws.row_maps_carry_runs.Goals as goal

pub returns : goal.returns
returns c = row_maps_carry_runs
