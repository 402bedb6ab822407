use Rattle.pc_presentation.specs.Scratch.{IsScratch}
use Rattle.cert_checker.specs.AgreedOverlaps.{LastAgree}
use Rattle.cert_checker.proofs.overlaps.last_agree.Given as goal

abbrev pub invariant-loop-i : goal.invariant-loop-i
invariant-loop-i l = IsScratch l.pcp l.s × LastAgree l.pcp.presentation l.k l.j l.i
