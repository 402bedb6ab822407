use Rattle.relator_spin.proofs.WorkLoops.{RowsTaken}
use Rattle.relator_spin.proofs.work.Work.take_rows.Given as goal

abbrev pub invariant-loop-place : goal.invariant-loop-place
invariant-loop-place l = RowsTaken l.rows l.initial.self l.self l.place
