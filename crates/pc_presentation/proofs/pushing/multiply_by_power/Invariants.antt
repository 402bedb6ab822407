use Rattle.std.proofs.Common.{◌++◌}
use Rattle.pq_base.specs.SignedWord.{copies}
use Rattle.pq_base.specs.Joined.{Joined}
use Rattle.pc_presentation.specs.Rowed.{flat}
use Rattle.pc_presentation.specs.Arithmetic.{word_of}
use Rattle.pc_presentation.specs.Tailed.{rowed_presentation, IsElement}
use Rattle.pc_presentation.proofs.pushing.multiply_by_power.Given as goal

-- what is there, with the power of the base that is left behind it, is joined to the whole
abbrev pub invariant-loop-rest : goal.invariant-loop-rest
invariant-loop-rest g l =
    let Y = rowed_presentation l.pcp in
    g.C.Collect.serves l.collector l.pcp.presentation.rank
    × IsElement l.pcp l.at
    × IsElement l.pcp l.base
    × IsElement l.pcp l.spare
    × Joined (flat Y) (word_of Y l.at.state ++ copies (word_of Y l.base.state) l.rest)
    (word_of Y l.fn.at.state ++ copies (word_of Y l.fn.base.state) l.exponent)

abbrev pub decreases-loop-rest : goal.decreases-loop-rest
decreases-loop-rest g l = l.rest
