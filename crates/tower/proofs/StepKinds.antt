-- A step over its kind of cover, of a canonical answer, is as good as one over the full cover with all overlaps: the cover owes what it
-- leaves out, what it leaves out is trivial, and rows that span those of the overlaps that are tested span those of all.
use Rattle.std.proofs.Common.{◌≡◌, ℕ, Bool, true, false, List, length, refl, ap, sym, ◌∙◌, subst}
use Rattle.std.specs.List.{All, Contains}
use Rattle.std.proofs.lemmas.List.Elements.{All-weaker, All-contains_itself}
use Rattle.pq_base.specs.LPresentation.{LPresentation}
use Rattle.pq_base.specs.Joined.{IsConsistent}
use Rattle.pq_base.specs.Prime.{IsOffered}
use Rattle.pq_base.specs.Answer.{Answer, IsAnswer}
use Rattle.pq_base.specs.Canonical.{IsCanonical}
use Rattle.fp_echelon.specs.Span.{AreRows, InSpan}
use Rattle.pc_presentation.specs.declared.overlap.Overlap.{Overlap}
use Rattle.pc_presentation.specs.OverlapNumbers.{AreOverlapNumbers, overlap_of}
use Rattle.pc_presentation.specs.OverlapRows.{overlap_row}
use Rattle.pc_presentation.proofs.consistent.OverlapNumberLaws.{numbered, numbered-is, overlap_of-numbered}
use Rattle.pc_presentation.specs.Collection.{State}
use Rattle.pc_presentation.specs.Arithmetic.{IsMeaning}
use Rattle.p_cover.specs.RowedAnswer.{rowed}
use Rattle.p_cover.specs.Covers.{CoverOf, IsCover, rowed_cover}
use Rattle.consistency.specs.AllOverlaps.{all_overlaps}
use Rattle.consistency.proofs.OverlapList.{each_overlap_once}
use Rattle.cover_quotient.specs.OverlapRows.{SpanOverlaps}
use Rattle.cover_quotient.specs.Stages.{OwesToObeying, IsLightCover}
use Rattle.cover_quotient.proofs.stages.OwedTails.{full_covers_owe, light_covers_owe}
use Rattle.tails_by_weight.specs.LightCovers.{light_cover_of}
use Rattle.tails_by_weight.specs.LightOverlaps.{light_overlaps}
use Rattle.tails_by_weight.proofs.LightSources.{light_covers_leave_out_heavy_tails}
use Rattle.tails_by_weight.proofs.OverlapsByWeight.{each_light_overlap_once}
use Rattle.tails_by_weight.proofs.LightSpans.{light_overlaps_span_all}
use Rattle.endo_lift.specs.Lifts.{LeavesOutTrivial}
use Rattle.endo_lift.proofs.FullCovers.{full_covers_leave_out_nothing}
use Rattle.endo_lift.proofs.LightCovers.{light_covers_leave_out_trivial_rows}
use Rattle.tower.specs.StepKinds.{step_cover, step_tests}

-- the cover of a step is one of its answer
pub step_cover-answer : (full : Bool) (A : Answer) → (step_cover full A).answer ≡ A
step_cover-answer true A = refl
step_cover-answer false A = refl

pub step_cover-covers : (full : Bool) (C : CoverOf) (A : Answer) → C ≡ step_cover full A → C.answer ≡ A
step_cover-covers full C A e = ap (λ (D : CoverOf). D.answer) e ∙ step_cover-answer full A

-- so it is known by the answer that it covers
pub step_cover-own : (full : Bool) (C : CoverOf) (A : Answer) → C ≡ step_cover full A → C ≡ step_cover full C.answer
step_cover-own full C A e = e ∙ ap (step_cover full) (sym (step_cover-covers full C A e))

-- a light cover leaves out heavy commutators alone
is_light-cover : (C : CoverOf) → C ≡ light_cover_of C.answer → IsCover C → IsCanonical C.answer → IsLightCover C
is_light-cover C e cover canonical =
    subst IsLightCover (sym e) (light_covers_leave_out_heavy_tails C.answer cover.answer canonical)

pub step_covers-owe : (full : Bool) (L : LPresentation) (C : CoverOf) → C ≡ step_cover full C.answer → IsCover C → IsCanonical C.answer
    → OwesToObeying L C
step_covers-owe true L C e cover canonical = full_covers_owe L C cover (ap (λ (D : CoverOf). D.sources) e)
step_covers-owe false L C e cover canonical = light_covers_owe L C (is_light-cover C e cover canonical)

pub step_covers-leave_out_trivial : (full : Bool) (C : CoverOf) → C ≡ step_cover full C.answer → IsCover C → IsCanonical C.answer
    → LeavesOutTrivial C
step_covers-leave_out_trivial true C e cover canonical = full_covers_leave_out_nothing C cover (ap (λ (D : CoverOf). D.sources) e)
step_covers-leave_out_trivial false C e cover canonical = light_covers_leave_out_trivial_rows C (is_light-cover C e cover canonical)

-- the overlaps that are tested have numbers of generators
pub light_overlaps-numbers : (A : Answer) → IsAnswer A → All (AreOverlapNumbers A.presentation.rank) (light_overlaps A)
light_overlaps-numbers A is =
    All-weaker (Contains (light_overlaps A)) (AreOverlapNumbers A.presentation.rank)
    (λ o h. (((each_light_overlap_once A is).members o).0 h).numbers) (light_overlaps A) (All-contains_itself (light_overlaps A))

-- the rows span that of each overlap of a list
abbrev pub SpanTests : CoverOf → (State → ℕ → State) → List Overlap → List (List ℕ) → Type 0
SpanTests C push tests rows = (o : Overlap) → Contains tests o
    → InSpan C.answer.presentation.prime (length C.sources) rows (overlap_row (rowed (rowed_cover C)) push (overlap_of o))

-- all overlaps, by their places
all-span : (C : CoverOf) (push : State → ℕ → State) (rows : List (List ℕ))
    → SpanTests C push (all_overlaps C.answer.presentation.rank) rows → SpanOverlaps (rowed (rowed_cover C)) push rows
all-span C push rows spans o h =
    let n : ℕ = C.answer.presentation.rank in
    subst (InSpan C.answer.presentation.prime (length C.sources) rows)
    (ap (overlap_row (rowed (rowed_cover C)) push) (overlap_of-numbered o))
    (spans (numbered o) (((each_overlap_once n).members (numbered o)).1 (numbered-is n o h)))

module _ (A : Answer) (is : IsAnswer A) (offered : IsOffered A.presentation.prime) (canonical : IsCanonical A)
    (consistent : IsConsistent A.presentation) (push : State → ℕ → State) (rows : List (List ℕ)) where
  -- the light ones, in the light cover
  light-span : IsMeaning (rowed (rowed_cover (light_cover_of A))) push
      → AreRows A.presentation.prime (length (light_cover_of A).sources) rows
      → SpanTests (light_cover_of A) push (light_overlaps A) rows → SpanOverlaps (rowed (rowed_cover (light_cover_of A))) push rows
  light-span meaning are spans =
      light_overlaps_span_all A push rows is offered canonical consistent meaning are
      (λ o light. spans o (((each_light_overlap_once A is).members o).1 light))

  -- by another name of the cover
  light-span_in : (C : CoverOf) → C ≡ light_cover_of A → IsMeaning (rowed (rowed_cover C)) push
      → AreRows C.answer.presentation.prime (length C.sources) rows → SpanTests C push (light_overlaps A) rows
      → SpanOverlaps (rowed (rowed_cover C)) push rows
  light-span_in C e =
      subst
      (λ (D : CoverOf). IsMeaning (rowed (rowed_cover D)) push → AreRows D.answer.presentation.prime (length D.sources) rows
      → SpanTests D push (light_overlaps A) rows → SpanOverlaps (rowed (rowed_cover D)) push rows) (sym e) light-span

-- those that are tested in a step
pub step_tests-span : (full : Bool) (C : CoverOf) (push : State → ℕ → State) (rows : List (List ℕ)) → C ≡ step_cover full C.answer
    → IsAnswer C.answer → IsOffered C.answer.presentation.prime → IsCanonical C.answer → IsConsistent C.answer.presentation
    → IsMeaning (rowed (rowed_cover C)) push → AreRows C.answer.presentation.prime (length C.sources) rows
    → SpanTests C push (step_tests full C.answer) rows → SpanOverlaps (rowed (rowed_cover C)) push rows
step_tests-span true C push rows e is offered canonical consistent meaning are spans = all-span C push rows spans
step_tests-span false C push rows e is offered canonical consistent meaning are spans =
    light-span_in C.answer is offered canonical consistent push rows C e meaning are spans
