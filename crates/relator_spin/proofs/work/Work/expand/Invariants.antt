use Rattle.relator_spin.proofs.WorkLoops.{ImagesTaken}
use Rattle.relator_spin.proofs.work.Work.expand.Given as goal

abbrev pub invariant-loop-index : goal.invariant-loop-index
invariant-loop-index l = ImagesTaken l.matrices l.initial.self l.self l.fn.place l.index
