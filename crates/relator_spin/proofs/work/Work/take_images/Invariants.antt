use Rattle.std.proofs.Common.{◌-◌}
use Rattle.relator_spin.proofs.WorkLoops.{AllImagesTaken}
use Rattle.relator_spin.proofs.work.Work.take_images.Given as goal

abbrev pub invariant-loop-place : goal.invariant-loop-place
invariant-loop-place l = AllImagesTaken l.matrices l.initial.self l.self l.place

abbrev pub decreases-loop-place : goal.decreases-loop-place
decreases-loop-place l = 65536 - l.place
