use Rattle.std.proofs.Common.{◌≡◌, List, [], length}
use Rattle.pq_base.specs.Prime.{prime_value}
use Rattle.derivation_log.specs.declared.source.Run.TheVariants.{Iterated, Whole}
use Rattle.derivation_log.specs.HeldSteps.{HeldStep, KeepsTheSame}
use Rattle.tower.specs.NamedParts.{named_part}
use Rattle.tower.specs.Answers.{IsGrown}
use Rattle.tower.specs.LoggedRuns.{HoldsSteps}
use Rattle.tower.proofs.runs.finite.Given as goal

-- the answer has the class k, the log was told of k steps of the whole, which lead to it, and of none of the other run
abbrev pub invariant-loop-k : goal.invariant-loop-k
invariant-loop-k g l =
    IsGrown (named_part l.fn.pres l.fn.relators) (prime_value l.fn.prime) l.k l.answer
    × ((steps : List HeldStep) → g.L.Log.keeps l.log Whole steps → length steps ≡ l.k)
    × KeepsTheSame (g.L.Log.keeps l.fn.log Iterated) (g.L.Log.keeps l.log Iterated)
    × (g.L.Log.keeps l.fn.log Whole []
    → HoldsSteps g.L.Log.FULL l.fn.pres g.C.Collect.meaning (prime_value l.fn.prime) l.k (g.L.Log.keeps l.log Whole) l.answer)
