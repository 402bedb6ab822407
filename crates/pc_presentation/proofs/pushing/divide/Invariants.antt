use Rattle.pc_presentation.specs.Tailed.{rowed_presentation}
use Rattle.pc_presentation.proofs.quotients.Division.{Divided}
use Rattle.pc_presentation.proofs.pushing.divide.Given as goal

abbrev pub invariant-loop-i : goal.invariant-loop-i
invariant-loop-i g l =
    g.C.Collect.serves l.collector l.pcp.presentation.rank
    × Divided l.pcp (g.C.Collect.meaning (rowed_presentation l.pcp)) l.fn.at l.fn.out l.at l.out l.i
