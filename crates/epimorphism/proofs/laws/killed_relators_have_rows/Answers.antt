use Rattle.epimorphism.proofs.RelatorRows.{killed_relators_have_rows}
use Rattle.epimorphism.proofs.laws.killed_relators_have_rows.Goals as goal

pub returns : goal.returns
returns c = killed_relators_have_rows
