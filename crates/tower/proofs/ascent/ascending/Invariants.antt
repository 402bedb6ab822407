use Rattle.std.proofs.Common.{◌≡◌, List, [], length}
use Rattle.pq_base.specs.Prime.{prime_value}
use Rattle.pq_base.specs.LPresentation.{part}
use Rattle.pq_base.specs.LPresentation.Part.{iterated_part}
use Rattle.derivation_log.specs.HeldSteps.{HeldStep, other_run, KeepsTheSame}
use Rattle.tower.specs.SpunParts.{IsSpunGrown}
use Rattle.tower.specs.LoggedRuns.{HoldsSteps}
use Rattle.tower.proofs.ascent.ascending.Given as goal

-- the answer has the class k and is a stage of the relators that were recorded; the log was told of k steps of the run, which lead to
-- it, and of none of the other run
abbrev pub invariant-loop-k : goal.invariant-loop-k
invariant-loop-k g l =
    IsSpunGrown l.fn.pres l.recorded.items (prime_value l.fn.prime) l.k l.answer
    × ((steps : List HeldStep) → g.L.Log.keeps l.log l.fn.run steps → length steps ≡ l.k)
    × KeepsTheSame (g.L.Log.keeps l.fn.log (other_run l.fn.run)) (g.L.Log.keeps l.log (other_run l.fn.run))
    × (g.L.Log.keeps l.fn.log l.fn.run []
    → HoldsSteps g.L.Log.FULL (part l.fn.pres iterated_part) g.C.Collect.meaning (prime_value l.fn.prime) l.k
    (g.L.Log.keeps l.log l.fn.run) l.answer)
