use Rattle.tower.proofs.Copies.{IsCopyOf}
use Rattle.tower.proofs.closing.copy_of.Given as goal

-- the rows so far were copied
abbrev pub invariant-loop-i : goal.invariant-loop-i
invariant-loop-i l = IsCopyOf l.basis l.i l.copy
