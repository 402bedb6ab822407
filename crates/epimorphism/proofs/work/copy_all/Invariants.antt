use Rattle.std.proofs.Common.{◌≡◌, take}
use Rattle.epimorphism.specs.Rooms.{AreAlike}
use Rattle.epimorphism.proofs.work.copy_all.Given as goal

abbrev pub invariant-loop-i : goal.invariant-loop-i
invariant-loop-i l = AreAlike l.from l.to × (take l.i l.to ≡ take l.i l.from)
