use Rattle.pc_presentation.specs.Scratch.{IsScratch}
use Rattle.cert_checker.specs.AgreedOverlaps.{PairsAgree}
use Rattle.cert_checker.proofs.overlaps.pairs_agree.Given as goal

abbrev pub invariant-loop-i : goal.invariant-loop-i
invariant-loop-i l = IsScratch l.pcp l.s × PairsAgree l.pcp.presentation l.k l.i
