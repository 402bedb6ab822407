use Rattle.epimorphism.proofs.RelatorRows.{rows_of_two_collectors_differ_by_trivial_rows}
use Rattle.epimorphism.proofs.laws.rows_of_two_collectors_differ_by_trivial_rows.Goals as goal

pub returns : goal.returns
returns c = rows_of_two_collectors_differ_by_trivial_rows
