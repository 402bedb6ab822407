-- One class over the iterated relators, in a cover of an answer, by the pushes of a collector: what the elimination answers on the rows
-- of overlaps and of relators that suffice.
use Rattle.std.proofs.Common.{◌≡◌, ℕ, ◌<◌, ◌≤◌, ℤ, Bool, List, [], ◌++◌, get_or, length, sym, subst, arith}
use Rattle.std.specs.List.{All}
use Rattle.std.proofs.lemmas.List.Elements.{All-weaker}
use Rattle.pq_base.specs.Limits.{max_class, max_rank}
use Rattle.pq_base.specs.SignedWord.{sub}
use Rattle.pq_base.specs.LPresentation.{LPresentation, IsLPresentation, IsRelator, part}
use Rattle.pq_base.specs.LPresentation.IsRelator.{iterated_relator}
use Rattle.pq_base.specs.LPresentation.Part.{iterated_part}
use Rattle.pq_base.specs.Joined.{Joined}
use Rattle.pq_base.specs.Answer.{Answer, class_of, image_words}
use Rattle.fp_echelon.specs.Basis.{Echelon}
use Rattle.fp_echelon.proofs.BasisSpans.{BasisAt, basis-at}
use Rattle.pc_presentation.specs.Rowed.{RowedPresentation, IsRowed}
use Rattle.pc_presentation.specs.Collection.{State}
use Rattle.pc_presentation.specs.Arithmetic.{IsMeaning}
use Rattle.pc_presentation.specs.Tailed.{rowed_presentation}
use Rattle.p_cover.specs.RowedAnswer.{rowed}
use Rattle.p_cover.specs.Covers.{CoverOf, IsCover, cover_presentation, rowed_cover}
use Rattle.cover_quotient.specs.AnswerLaws.{HasRowOf}
use Rattle.cover_quotient.specs.OverlapRows.{SpanOverlaps}
use Rattle.cover_quotient.specs.Stages.{IsStage, OwesToObeying}
use Rattle.cover_quotient.specs.StageLaws.{IsStepOf}
use Rattle.cover_quotient.proofs.stages.FirstStages.{stage-kills}
use Rattle.class_step.specs.declared.step.Step.{Step}
use Rattle.class_step.specs.Steps.{IsStep}
use Rattle.tower.specs.declared.relator.Relator.{Relator}
use Rattle.tower.specs.declared.relator.Relator.TheVariants.{Fixed, Iterated}
use Rattle.tower.specs.NamedParts.{IsNamed, Dies, named_part}
use Rattle.tower.specs.StepKinds.{step_cover, step_tests}
use Rattle.tower.specs.StepRows.{StepRows, AreOver, HaveTaken, step_sources}
use Rattle.tower.specs.Answers.{IsStepFrom}
use Rattle.tower.specs.SpunParts.{AreIterated, IsSpunGrown, IsSpunStep}
use Rattle.tower.specs.Closing.{SufficeIn}
use Rattle.tower.proofs.StepKinds.{step_cover-covers, step_cover-own, step_covers-owe}
use Rattle.tower.proofs.TakenSources.{taken-tests, taken-relator}
use Rattle.tower.proofs.ClassSteps.{cover-meaning, over-span}
use Rattle.tower.proofs.Quotients.{own-stage}
use Rattle.tower.proofs.RecordedStages.{iterated-relator, iterated-step, spun-step}

-- iterated relators are relators of the presentation
iterated-named_one : (L : LPresentation) (r : Relator) → IsNamed (part L iterated_part) r → IsNamed L r
iterated-named_one L (Fixed i) named =
    let first = named.0 in
    let last = named.1 in
    absurd (omega arith)
iterated-named_one L (Iterated i s) named = named

pub iterated-named : (L : LPresentation) (rs : List Relator) → AreIterated L rs → All (IsNamed L) rs
iterated-named L rs iterated = All-weaker (IsNamed (part L iterated_part)) (IsNamed L) (iterated-named_one L) rs iterated

module _ (L : LPresentation) (p c : ℕ) (A : Answer) (stage : IsStage (part L iterated_part) p c A) where
  -- they die in a stage
  pub iterated-die : (rs : List Relator) → AreIterated L rs → All (Dies L A) rs
  iterated-die rs iterated =
      All-weaker (IsNamed (part L iterated_part)) (Dies L A)
      (λ r named. stage-kills (part L iterated_part) p c A stage _ (iterated-relator L r named)) rs iterated

  -- along no endomorphism too
  pub uncarried-die : (i : ℕ) → i < length L.iterated → Joined A.presentation (sub (get_or L.iterated i []) (image_words A)) []
  uncarried-die i l = stage-kills (part L iterated_part) p c A stage (get_or L.iterated i []) (iterated_relator [] i tt l)

-- the stage, as the rows of a class take it
pub spun-stage : (full : Bool) (L : LPresentation) (recorded : List Relator) (p k : ℕ) (A : Answer) (C : CoverOf) → C ≡ step_cover full A
    → IsSpunGrown L recorded p k A → IsStage (part L iterated_part) C.answer.presentation.prime (class_of C.answer) C.answer
spun-stage full L recorded p k A C e grown =
    subst (λ (D : Answer). IsStage (part L iterated_part) D.presentation.prime (class_of D) D) (sym (step_cover-covers full C A e))
    (own-stage (part L iterated_part) p k A grown.grown)

module _ (meaning : RowedPresentation → State → ℕ → State) (reaches : (Y : RowedPresentation) → IsRowed Y → IsMeaning Y (meaning Y))
    (full : Bool) (L : LPresentation) (is : IsLPresentation L) (p k : ℕ) (recorded new : List Relator) (A : Answer) (C : CoverOf)
    (e : C ≡ step_cover full A) (cover : IsCover C) (grown : IsSpunGrown L recorded p k A) (iterated : AreIterated L new) (R : StepRows)
    (over : AreOver C R)
    (taken : HaveTaken L C (meaning (rowed_presentation (cover_presentation C))) (step_sources (step_tests full C.answer) new) R)
    (suffice : SufficeIn L C (meaning (rowed_presentation (cover_presentation C))) new) (B : Echelon) (same : B ≡ R.basis) where
  abbrev push : State → ℕ → State
  push = meaning (rowed_presentation (cover_presentation C))

  here : IsSpunGrown L recorded p k C.answer
  here = subst (IsSpunGrown L recorded p k) (sym (step_cover-covers full C A e)) grown

  kind : C ≡ step_cover full C.answer
  kind = step_cover-own full C A e

  pushes : IsMeaning (rowed (rowed_cover C)) (meaning (rowed_presentation (cover_presentation C)))
  pushes = cover-meaning meaning reaches C cover

  at : BasisAt C.answer.presentation.prime (length C.sources) R.basis.added R.basis.rows
  at = basis-at R.basis C.answer.presentation.prime (length C.sources) over.prime over.width over.basis

  overlaps : SpanOverlaps (rowed (rowed_cover C)) (meaning (rowed_presentation (cover_presentation C))) R.basis.added
  overlaps =
      over-span full (part L iterated_part) p k C kind here.grown.tower.stage push pushes R over
      (taken-tests L C push (step_tests full C.answer) new R taken)

  every : (r : List ℤ) → IsRelator (part L iterated_part) r → HasRowOf C R.basis.added r
  every = suffice R.basis.added at.are overlaps (taken-relator L C push (step_tests full C.answer) new R taken)

  owes : (M : LPresentation) → OwesToObeying M C
  owes M = step_covers-owe full M C kind cover here.grown.tower.stage.canonical

  pub spun-step_of : IsStepOf (part L iterated_part) p k C (meaning (rowed_presentation (cover_presentation C))) B
  spun-step_of =
      subst (IsStepOf (part L iterated_part) p k C push) (sym same)
      (iterated-step L is p k recorded new C push R here iterated pushes over (step_tests full C.answer) taken overlaps every
      (owes (part L iterated_part)))

  pub spun-answers : k < max_class → A.presentation.rank ≤ max_rank → (all : List Relator) → all ≡ recorded ++ new → (step : Step)
      → IsStep C B.rows step → IsStepFrom (part L iterated_part) p k A step × IsSpunStep L all p k A step
  spun-answers few small all more step h =
      subst (λ (rs : List Relator). IsStepFrom (part L iterated_part) p k A step × IsSpunStep L rs p k A step) (sym more)
      (subst (λ (D : Answer). IsStepFrom (part L iterated_part) p k D step × IsSpunStep L (recorded ++ new) p k D step)
      (step_cover-covers full C A e)
      (spun-step L is p k recorded new C push R here iterated pushes over (step_tests full C.answer) taken overlaps every
      (owes (part L iterated_part)) (owes (named_part L (recorded ++ new))) few
      (subst (λ (D : Answer). D.presentation.rank ≤ max_rank) (sym (step_cover-covers full C A e)) small) step
      (subst (λ (E : Echelon). IsStep C E.rows step) same h)))
