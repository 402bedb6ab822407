-- The rows of a step make a basis of the rows of all overlaps and relators, and what the elimination answers on it is the step
-- from one stage to the next.
use Rattle.std.proofs.Common.{◌≡◌, ℕ, suc, ◌+◌, ◌<◌, ◌≤◌, ℤ, Bool, List, length, ap, sym, ◌∙◌, subst, arith}
use Rattle.std.specs.List.{All}
use Rattle.std.proofs.lemmas.List.Elements.{All-weaker, All-contains_itself}
use Rattle.std.specs.List.{Contains}
use Rattle.pq_base.specs.Limits.{max_class, max_rank}
use Rattle.pq_base.specs.LPresentation.{LPresentation, IsLPresentation}
use Rattle.pq_base.specs.Prime.{IsOffered}
use Rattle.pq_base.specs.Answer.{Answer, class_of}
use Rattle.pq_base.specs.Largest.{HasOrder}
use Rattle.fp_echelon.specs.Basis.{Echelon}
use Rattle.fp_echelon.proofs.BasisSpans.{BasisAt, basis-at}
use Rattle.pc_presentation.specs.Rowed.{RowedPresentation, IsRowed}
use Rattle.pc_presentation.specs.Collection.{State}
use Rattle.pc_presentation.specs.declared.overlap.Overlap.{Overlap}
use Rattle.pc_presentation.specs.Arithmetic.{IsMeaning}
use Rattle.pc_presentation.specs.Tailed.{rowed_presentation}
use Rattle.pq_base.proofs.PrimeLaws.{offered-two}
use Rattle.p_cover.specs.RowedAnswer.{rowed}
use Rattle.p_cover.specs.Covers.{CoverOf, IsCover, cover_presentation, rowed_cover}
use Rattle.cover_quotient.specs.AnswerLaws.{kept_count, HasRowOf}
use Rattle.cover_quotient.specs.NextAnswer.{eliminated}
use Rattle.cover_quotient.specs.OverlapRows.{SpanOverlaps}
use Rattle.class_step.specs.declared.step.Step.{Step}
use Rattle.class_step.specs.declared.step.Step.TheVariants.{Next, Same, TooLarge}
use Rattle.class_step.specs.Steps.{IsStep}
use Rattle.cover_quotient.proofs.kept_tails.CoverUnits.{cover-units}
use Rattle.cover_quotient.proofs.stages.LargestOrders.{largest_quotients_have_the_order}
use Rattle.tower.specs.declared.relator.Relator.{Relator}
use Rattle.tower.specs.NamedParts.{named_word, named_part, Dies}
use Rattle.cover_quotient.specs.Stages.{IsStage, IsNextStage}
use Rattle.cover_quotient.specs.StageLaws.{IsStepOf}
use Rattle.tower.specs.StepKinds.{step_cover, step_tests}
use Rattle.tower.specs.StepRows.{StepRows, AreOver, HaveTaken, step_sources}
use Rattle.tower.specs.Answers.{IsStepFrom, IsGrown}
use Rattle.cover_quotient.proofs.stages.FirstStages.{stages_are_largest, stage-kills}
use Rattle.cover_quotient.proofs.stages.NextStages.{next_answers_are_stages, stages_stay}
use Rattle.tower.proofs.NamedLaws.{named-part_is, named-relator, named-all}
use Rattle.tower.proofs.StepKinds.{SpanTests, step_cover-covers, step_cover-own, step_covers-owe, step_tests-span}
use Rattle.tower.proofs.TakenSources.{taken-tests, taken-relator_row, taken-trusted}

-- the named relators die in a stage
pub named-die : (L : LPresentation) (rs : List Relator) (p c : ℕ) (A : Answer) → IsStage (named_part L rs) p c A → All (Dies L A) rs
named-die L rs p c A stage =
    All-weaker (Contains rs) (Dies L A) (λ r h. stage-kills (named_part L rs) p c A stage (named_word L r) (named-relator L rs r h)) rs
    (All-contains_itself rs)

-- the pushes of a collector are a meaning in each cover
pub cover-meaning : (meaning : RowedPresentation → State → ℕ → State)
    → ((Y : RowedPresentation) → IsRowed Y → IsMeaning Y (meaning Y)) → (C : CoverOf) → IsCover C
    → IsMeaning (rowed (rowed_cover C)) (meaning (rowed_presentation (cover_presentation C)))
cover-meaning meaning reaches C is = reaches (rowed (rowed_cover C)) (cover-units C is is.answer.presentation.prime).rowed.presentation

-- rows over the cover of a stage that span those of the overlaps that are tested span those of all
pub over-span : (full : Bool) (L : LPresentation) (p c : ℕ) (C : CoverOf) → C ≡ step_cover full C.answer → IsStage L p c C.answer
    → (push : State → ℕ → State) → IsMeaning (rowed (rowed_cover C)) push → (R : StepRows) → AreOver C R
    → SpanTests C push (step_tests full C.answer) R.basis.added → SpanOverlaps (rowed (rowed_cover C)) push R.basis.added
over-span full L p c C kind stage push meaning R over spans =
    let at : BasisAt C.answer.presentation.prime (length C.sources) R.basis.added R.basis.rows =
    basis-at R.basis C.answer.presentation.prime (length C.sources) over.prime over.width over.basis in
    step_tests-span full C push R.basis.added kind stage.answer (subst IsOffered (sym stage.prime) stage.offered) stage.canonical
    stage.consistent meaning at.are spans

-- what the elimination answers
pub step-from : (L : LPresentation) (p c : ℕ) (C : CoverOf) (push : State → ℕ → State) (B : Echelon) → IsStepOf L p c C push B
    → c < max_class
    → C.answer.presentation.rank ≤ max_rank → (step : Step) → IsStep C B.rows step → IsStepFrom L p c C.answer step
step-from L p c C push B of few small (Next a) is =
    let some = is.1 in
    subst (IsNextStage L p c C.answer) (sym is.0) (next_answers_are_stages L p c C push B of few (omega arith))
step-from L p c C push B of few small Same is = λ d l. stages_stay L p c C push B of (ap length is) d l
step-from L p c C push B of few small (TooLarge rank) is =
    let count : rank ≡ C.answer.presentation.rank + kept_count C B.rows = is.0 in
    let large = is.1 in
    let next = next_answers_are_stages L p c C push B of few (omega arith) in (
      is.1,
      subst (HasOrder L p (suc c)) (sym is.0)
          (largest_quotients_have_the_order L p (suc c) (eliminated C B.rows) (offered-two p of.stage.offered)
          (stages_are_largest L p (suc c) (eliminated C B.rows) next.stage)),
    )

-- the stage of an answer, in its cover
pub covered-stage : (full : Bool) (L : LPresentation) (p c : ℕ) (A : Answer) (C : CoverOf) → C ≡ step_cover full A → IsStage L p c A
    → IsStage L p c C.answer
covered-stage full L p c A C e stage = subst (IsStage L p c) (sym (step_cover-covers full C A e)) stage

module _ (meaning : RowedPresentation → State → ℕ → State) (reaches : (Y : RowedPresentation) → IsRowed Y → IsMeaning Y (meaning Y))
    (full : Bool) (L : LPresentation) (is : IsLPresentation L) (rs : List Relator) (p c : ℕ) (A : Answer) (C : CoverOf)
    (e : C ≡ step_cover full A) (cover : IsCover C) (grown : IsGrown (named_part L rs) p c A) (R : StepRows) (over : AreOver C R)
    (taken : HaveTaken L C (meaning (rowed_presentation (cover_presentation C))) (step_sources (step_tests full C.answer) rs) R)
    (B : Echelon) (same : B ≡ R.basis) where
  abbrev push : State → ℕ → State
  push = meaning (rowed_presentation (cover_presentation C))

  abbrev tests : List Overlap
  tests = step_tests full C.answer

  kind : C ≡ step_cover full C.answer
  kind = step_cover-own full C A e

  pushes : IsMeaning (rowed (rowed_cover C)) (meaning (rowed_presentation (cover_presentation C)))
  pushes = cover-meaning meaning reaches C cover

  stage : IsStage (named_part L rs) p c C.answer
  stage = covered-stage full (named_part L rs) p c A C e grown.tower.stage

  -- the rows of overlaps and of all relators, taken one after the other from none
  taken-step : IsStepOf (named_part L rs) p c C (meaning (rowed_presentation (cover_presentation C))) R.basis
  taken-step = record {
    words = named-part_is L is rs;
    stage = stage;
    class = ap class_of (step_cover-covers full C A e) ∙ grown.class;
    owes = step_covers-owe full (named_part L rs) C kind cover stage.canonical;
    meaning = pushes;
    rows = record {
      basis = over.basis;
      prime = over.prime;
      width = over.width;
      overlaps = over-span full (named_part L rs) p c C kind stage push pushes R over (taken-tests L C push tests rs R taken);
      relators = λ r k.
          named-all L rs (λ (w : List ℤ). HasRowOf C R.basis.added w)
          (All-weaker (Contains rs) (λ (s : Relator). HasRowOf C R.basis.added (named_word L s))
          (taken-relator_row L C push tests rs R taken is cover pushes stage.names) rs (All-contains_itself rs)) r k;
      trusted =
          taken-trusted L C push tests rs R taken is cover pushes stage.names (named_part L rs) (λ s h. named-relator L rs s h);
    };
  }

  -- with the basis by another name
  pub step-of : IsStepOf (named_part L rs) p c C (meaning (rowed_presentation (cover_presentation C))) B
  step-of = subst (IsStepOf (named_part L rs) p c C push) (sym same) taken-step

  pub step-answers : c < max_class → A.presentation.rank ≤ max_rank → (step : Step) → IsStep C B.rows step
      → IsStepFrom (named_part L rs) p c A step
  step-answers few small step h =
      subst (λ (D : Answer). IsStepFrom (named_part L rs) p c D step) (step_cover-covers full C A e)
      (step-from (named_part L rs) p c C push B step-of few
      (subst (λ (D : Answer). D.presentation.rank ≤ max_rank) (sym (step_cover-covers full C A e)) small) step h)
