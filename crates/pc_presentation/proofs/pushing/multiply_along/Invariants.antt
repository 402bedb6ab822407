use Rattle.std.proofs.Common.{◌≡◌, drop}
use Rattle.pc_presentation.specs.Tailed.{rowed_presentation, IsElement}
use Rattle.pc_presentation.proofs.quotients.ValueSteps.{evaluated}
use Rattle.pc_presentation.proofs.pushing.multiply_along.Given as goal

-- what is left of the word decides
abbrev pub invariant-loop-k : goal.invariant-loop-k
invariant-loop-k g l =
    g.C.Collect.serves l.collector l.pcp.presentation.rank
    × IsElement l.pcp l.at
    × (evaluated l.pcp (g.C.Collect.meaning (rowed_presentation l.pcp)) l.images l.inverses l.at (drop l.k-index l.word)
    ≡ evaluated l.pcp (g.C.Collect.meaning (rowed_presentation l.pcp)) l.images l.inverses l.fn.at l.word)
