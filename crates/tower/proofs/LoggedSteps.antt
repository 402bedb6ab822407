-- A log that was told of the basis of a step, and of what its rows come from, holds a step over the kind of cover that it asks for.
use Rattle.std.proofs.Common.{◌≡◌, ℕ, Bool, List, sym, subst}
use Rattle.pq_base.specs.LPresentation.{LPresentation}
use Rattle.pq_base.specs.Answer.{Answer}
use Rattle.fp_echelon.specs.Basis.{Echelon}
use Rattle.pc_presentation.specs.Rowed.{RowedPresentation}
use Rattle.pc_presentation.specs.Collection.{State}
use Rattle.pc_presentation.specs.Tailed.{rowed_presentation}
use Rattle.p_cover.specs.Covers.{CoverOf, cover_presentation}
use Rattle.class_step.specs.declared.step.Step.{Step}
use Rattle.class_step.specs.Steps.{IsStep}
use Rattle.derivation_log.specs.declared.source.RowSource.{RowSource}
use Rattle.derivation_log.specs.HeldSteps.{HeldStep, told_step, KeepsOneMore}
use Rattle.derivation_log.specs.HeldRuns.{IsHeldStep}
use Rattle.derivation_log.proofs.HeldLines.{held-basis}
use Rattle.tower.specs.declared.relator.Relator.{Relator}
use Rattle.tower.specs.StepKinds.{step_cover, step_tests, IsTested}
use Rattle.tower.specs.StepRows.{StepRows, AreOver, HaveTaken, step_sources}
use Rattle.tower.specs.LoggedSteps.{IsLogged}
use Rattle.tower.proofs.StepKinds.{step_cover-answer}
use Rattle.tower.proofs.TakenSources.{taken-tested}

module _ (full : Bool) (L : LPresentation) (meaning : RowedPresentation → State → ℕ → State) (A : Answer) (C : CoverOf)
    (kind : C ≡ step_cover full A) (rs : List Relator) (R : StepRows) (over : AreOver C R)
    (taken : HaveTaken L C (meaning (rowed_presentation (cover_presentation C))) (step_sources (step_tests full C.answer) rs) R)
    (sources : List RowSource) (B : Echelon) (noted : sources ≡ R.noted) (basis : B ≡ R.basis) where
  -- the step, in the cover that it was made in
  here : IsHeldStep L meaning C (IsTested full C.answer) (told_step R.noted R.basis)
  here = record {
    basis = held-basis R.basis R.noted over.basis;
    prime = over.prime;
    width = over.width;
    rows = taken.rows;
    tests = taken-tested L C (meaning (rowed_presentation (cover_presentation C))) (step_tests full C.answer) rs R taken;
  }

  -- by the names that the log was told
  told : IsHeldStep L meaning C (IsTested full C.answer) (told_step sources B)
  told =
      subst (λ (ss : List RowSource). IsHeldStep L meaning C (IsTested full C.answer) (told_step ss B)) (sym noted)
      (subst (λ (E : Echelon). IsHeldStep L meaning C (IsTested full C.answer) (told_step R.noted E)) (sym basis) here)

  -- in the cover of the answer
  known : IsHeldStep L meaning (step_cover full A) (IsTested full A) (told_step sources B)
  known =
      subst (λ (D : Answer). IsHeldStep L meaning (step_cover full A) (IsTested full D) (told_step sources B)) (step_cover-answer full A)
      (subst (λ (D : CoverOf). IsHeldStep L meaning D (IsTested full D.answer) (told_step sources B)) kind told)

  pub logged-taken : (X Y : List HeldStep → Type 0) → KeepsOneMore X Y (told_step sources B) → (step : Step) → IsStep C B.rows step
      → IsLogged full L meaning A X Y step
  logged-taken X Y more step answered = record {
    held = told_step sources B;
    is_step = known;
    told = more;
    answered = subst (λ (D : CoverOf). IsStep D B.rows step) kind answered;
  }
