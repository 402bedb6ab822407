-- What a log that keeps steps holds after a run, and after one that was refused.
-- From: Newman and O'Brien's p-quotient method, one class after the other.
use Rattle.std.specs.Prelude.{◌≡◌, ◌<◌, ℕ, Bool, List, length}
use Rattle.pq_base.specs.LPresentation.{LPresentation}
use Rattle.pq_base.specs.Answer.{Answer}
use Rattle.pc_presentation.specs.Rowed.{RowedPresentation}
use Rattle.pc_presentation.specs.Collection.{State}
use Rattle.pc_presentation.specs.Parts.{trivial_answer}
use Rattle.derivation_log.specs.HeldSteps.{HeldStep}
use Rattle.derivation_log.specs.HeldRuns.{AreHeldSteps, IsHeldRun}
use Rattle.tower.specs.StepKinds.{step_cover, IsTested}
use Rattle.tower.specs.declared.refusal.TowerRefusal.{TowerRefusal}
use Rattle.tower.specs.declared.refusal.TowerRefusal.TheVariants.{TooLarge, NoMemory}

-- n steps are kept, over full covers or over those cut by weight, which lead from the trivial answer to this one
pub record HoldsSteps (full : Bool) (L : LPresentation) (meaning : RowedPresentation → State → ℕ → State) (p n : ℕ)
    (keeps : List HeldStep → Type 0)
    (A : Answer) : Type 0 where
  pub steps : List HeldStep
  pub kept : keeps steps
  pub made : AreHeldSteps L meaning (step_cover full) (IsTested full) (trivial_answer p L.names) steps A
  pub count : length steps ≡ n

-- the steps of a run to class c are kept, which make this answer
pub record HoldsRun (full : Bool) (L : LPresentation) (meaning : RowedPresentation → State → ℕ → State) (p c : ℕ)
    (keeps : List HeldStep → Type 0)
    (A : Answer) : Type 0 where
  pub steps : List HeldStep
  pub kept : keeps steps
  pub made : IsHeldRun L meaning (step_cover full) (IsTested full) p c steps A

-- n steps were done before a run to class c was refused, and lead to this answer: all to the class that is too large, whose answer
-- has the rank named; or those of fewer classes, where memory was wanting
abbrev pub IsDoneBefore : ℕ → TowerRefusal → ℕ → Answer → Type 0
IsDoneBefore c (TooLarge run k rank) n A = (n ≡ k) × (A.presentation.rank ≡ rank)
IsDoneBefore c NoMemory n A = n < c

-- the steps are kept that were done before a run to class c was refused
pub record HoldsRefused (full : Bool) (L : LPresentation) (meaning : RowedPresentation → State → ℕ → State) (p c : ℕ)
    (keeps : List HeldStep → Type 0)
    (refusal : TowerRefusal) : Type 0 where
  pub many : ℕ
  pub answer : Answer
  pub done : IsDoneBefore c refusal many answer
  pub holds : HoldsSteps full L meaning p many keeps answer
