use Rattle.pc_presentation.specs.Scratch.{IsScratch}
use Rattle.cert_checker.specs.AgreedOverlaps.{TriplesAgree}
use Rattle.cert_checker.proofs.overlaps.triples_agree.Given as goal

abbrev pub invariant-loop-j : goal.invariant-loop-j
invariant-loop-j l = IsScratch l.pcp l.s × TriplesAgree l.pcp.presentation l.k l.j
