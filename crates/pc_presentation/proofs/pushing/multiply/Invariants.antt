use Rattle.std.proofs.Common.{◌≡◌, drop}
use Rattle.pc_presentation.specs.Collection.{spelled}
use Rattle.pc_presentation.specs.Tailed.{rowed_presentation, IsElement}
use Rattle.pc_presentation.proofs.quotients.PushesLeft.{after}
use Rattle.pc_presentation.proofs.pushing.multiply.Given as goal

-- what is left to push decides
abbrev pub invariant-loop-i : goal.invariant-loop-i
invariant-loop-i g l =
    g.C.Collect.serves l.collector l.pcp.presentation.rank
    × IsElement l.pcp l.at
    × (after (g.C.Collect.meaning (rowed_presentation l.pcp)) l.at (spelled l.i (drop l.i l.factor.state.exponents))
    ≡ after (g.C.Collect.meaning (rowed_presentation l.pcp)) l.fn.at (spelled 0 l.factor.state.exponents))
