-- A step that a log was told of.
-- From: one class of Newman and O'Brien's p-quotient method.
use Rattle.std.specs.Prelude.{ℕ, Bool, List}
use Rattle.pq_base.specs.LPresentation.{LPresentation}
use Rattle.pq_base.specs.Answer.{Answer}
use Rattle.pc_presentation.specs.Rowed.{RowedPresentation}
use Rattle.pc_presentation.specs.Collection.{State}
use Rattle.class_step.specs.declared.step.Step.{Step}
use Rattle.class_step.specs.Steps.{IsStep}
use Rattle.derivation_log.specs.HeldSteps.{HeldStep, KeepsOneMore}
use Rattle.derivation_log.specs.HeldRuns.{IsHeldStep}
use Rattle.tower.specs.StepKinds.{step_cover, IsTested}

-- the step from an answer was appended to the lists that were kept before, and answers what its basis makes of the cover
pub record IsLogged (full : Bool) (L : LPresentation) (meaning : RowedPresentation → State → ℕ → State) (A : Answer)
    (before after : List HeldStep → Type 0) (step : Step) : Type 0 where
  pub held : HeldStep
  pub is_step : IsHeldStep L meaning (step_cover full A) (IsTested full A) held
  pub told : KeepsOneMore before after held
  pub answered : IsStep (step_cover full A) held.rows step
