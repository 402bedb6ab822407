use Rattle.pc_presentation.specs.Scratch.{IsScratch}
use Rattle.cert_checker.specs.AgreedOverlaps.{AllAgree}
use Rattle.cert_checker.proofs.overlaps.all_agree.Given as goal

abbrev pub invariant-loop-k : goal.invariant-loop-k
invariant-loop-k l = IsScratch l.pcp l.s × AllAgree l.pcp.presentation l.k
