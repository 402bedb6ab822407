-- Presentations that take two runs. Where there are fixed relators and endomorphisms, the iterated part is computed first, and the
-- relators that it records stand for it beside the fixed ones.
-- From: the nilpotent quotient algorithm for L-presented groups of L. Bartholdi, B. Eick and R. Hartung, in which fixed relators are
-- enforced last.
use Rattle.std.specs.Prelude.{◌≢◌, ◌<◌, ◌≤◌, ◌⊎◌, ℕ, Bool, List, [], ◌++◌, length, map, ⊤}
use Rattle.pq_base.specs.Limits.{max_rank}
use Rattle.pq_base.specs.LPresentation.{LPresentation, part}
use Rattle.pq_base.specs.LPresentation.Part.{iterated_part}
use Rattle.pq_base.specs.Answer.{Answer}
use Rattle.pq_base.specs.Canonical.{numbers_from}
use Rattle.pq_base.specs.Largest.{IsLargest, HasOrder}
use Rattle.pc_presentation.specs.Rowed.{RowedPresentation}
use Rattle.pc_presentation.specs.Collection.{State}
use Rattle.derivation_log.specs.declared.source.Run.{Run}
use Rattle.derivation_log.specs.declared.source.Run.TheVariants.{Iterated, Whole}
use Rattle.derivation_log.specs.HeldSteps.{HeldStep}
use Rattle.tower.specs.declared.refusal.TowerRefusal.{TowerRefusal}
use Rattle.tower.specs.declared.refusal.TowerRefusal.TheVariants.{TooLarge, NoMemory}
use Rattle.tower.specs.declared.relator.Relator.{Relator}
use Rattle.tower.specs.declared.relator.Relator.TheVariants.{Fixed}
use Rattle.tower.specs.Answers.{IsTooLarge}
use Rattle.tower.specs.LoggedRuns.{HoldsRun, HoldsRefused}

-- the recorded relators, and all fixed ones behind them
abbrev pub and_all_fixed : LPresentation → List Relator → List Relator
and_all_fixed L recorded = recorded ++ map Fixed (numbers_from 1 (length L.fixed))

-- there are fixed relators and endomorphisms
abbrev pub TakesTwoRuns : LPresentation → Type 0
TakesTwoRuns L = (L.fixed ≢ []) × (L.endos ≢ [])

-- where the iterated part is computed first, none of its largest quotients up to class c has an order of more factors p than the
-- greatest rank
abbrev pub HasSmallPart : LPresentation → ℕ → ℕ → Type 0
HasSmallPart L p c = TakesTwoRuns L → (k r : ℕ) → k ≤ c → max_rank < r → ¬ HasOrder (part L iterated_part) p k r

-- class k is the first whose largest quotient has a rank above the greatest: of the iterated part, where it is computed first, else
-- of the whole
abbrev pub IsTooLargeIn : LPresentation → ℕ → ℕ → Run → ℕ → ℕ → Type 0
IsTooLargeIn L p c Iterated k r = TakesTwoRuns L × IsTooLarge (part L iterated_part) p c k r
IsTooLargeIn L p c Whole k r = HasSmallPart L p c × IsTooLarge L p c k r

-- a refusal of the whole presentation has its cause; a want of memory may come at any time
abbrev pub IsRefusalOfWhole : LPresentation → ℕ → ℕ → TowerRefusal → Type 0
IsRefusalOfWhole L p c (TooLarge run k rank) = IsTooLargeIn L p c run k rank
IsRefusalOfWhole L p c NoMemory = ⊤

-- the steps of the run over the iterated part are kept, which make its largest quotient
pub record HoldsPart (full : Bool) (L : LPresentation) (meaning : RowedPresentation → State → ℕ → State) (p c : ℕ)
    (keeps : List HeldStep → Type 0) : Type 0 where
  pub answer : Answer
  pub largest : IsLargest (part L iterated_part) p c answer
  pub holds : HoldsRun full (part L iterated_part) meaning p c keeps answer

-- after a refusal, the steps that were done: in the first run, with none of the second, or all of the first and some of the second
abbrev pub HoldsTwoRefused : Bool → LPresentation → (RowedPresentation → State → ℕ → State) → ℕ → ℕ → (List HeldStep → Type 0)
    → (List HeldStep → Type 0) → TowerRefusal → Type 0
HoldsTwoRefused full L meaning p c iterated whole refusal =
    (HoldsRefused full (part L iterated_part) meaning p c iterated refusal × whole [])
    ⊎ (HoldsPart full L meaning p c iterated × HoldsRefused full L meaning p c whole refusal)
