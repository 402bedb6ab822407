use Rattle.std.proofs.Common.{◌≢◌, ◌-◌, ◌<◌, ℕ, get_or}
use Rattle.pc_presentation.specs.Commuting.{IsBare}
use Rattle.pc_presentation.specs.Tailed.{rowed_presentation}
use Rattle.pc_presentation.proofs.commutes.commutes_with_later.Given as goal

abbrev pub invariant-loop-j : goal.invariant-loop-j
invariant-loop-j l = (k : ℕ) → l.generator - 1 < k → k < l.j → get_or l.at.state.exponents k 0 ≢ 0
    → IsBare (rowed_presentation l.pcp) k (l.generator - 1)
