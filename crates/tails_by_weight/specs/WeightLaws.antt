-- What is proved of covers and overlaps cut by weight. Each statement is the contract of a function of `laws`.
-- From: M. R. Vaughan-Lee, An aspect of the nilpotent quotient algorithm, 1984.
use Rattle.std.specs.Prelude.{◌≡◌, ◌≢◌, ◌↔◌, ◌⊎◌, ◌-◌, ℕ, false, Option, Some, None, List, map, get_or, length}
use Rattle.std.specs.List.{All, AllPairs, Contains}
use Rattle.pq_base.specs.Prime.{IsOffered}
use Rattle.pq_base.specs.Presentation.{IsNormal}
use Rattle.pq_base.specs.Joined.{IsConsistent}
use Rattle.pq_base.specs.Answer.{Answer, Definition as Source, IsAnswer}
use Rattle.pq_base.specs.Canonical.{IsCanonical}
use Rattle.fp_echelon.specs.Span.{AreRows, InSpan}
use Rattle.pc_presentation.specs.Rowed.{RowedPresentation, IsRowed, flat}
use Rattle.pc_presentation.specs.Collection.{State}
use Rattle.pc_presentation.specs.Arithmetic.{IsMeaning}
use Rattle.pc_presentation.specs.Overlaps.{Overlap as OverlapOfPlaces, IsOverlap, Agrees}
use Rattle.pc_presentation.specs.OverlapRows.{overlap_row}
use Rattle.pc_presentation.specs.declared.overlap.Overlap.{Overlap}
use Rattle.pc_presentation.specs.OverlapNumbers.{overlap_of}
use Rattle.p_cover.specs.RowedAnswer.{rowed, row_at}
use Rattle.p_cover.specs.Sources.{place_in}
use Rattle.p_cover.specs.Covers.{all_sources, rowed_cover}
use Rattle.cover_quotient.specs.OverlapRows.{SpanOverlaps, AreOverlapRows}
use Rattle.cover_quotient.specs.Stages.{IsLightCover, full_cover_of}
use Rattle.tails_by_weight.specs.LightCovers.{is_light, light_sources, light_cover_of}
use Rattle.tails_by_weight.specs.LightOverlaps.{IsLightOverlap, light_overlaps}
use Rattle.tails_by_weight.specs.WeightedRows.{ObeysWeightsTo, IsInsideTo}

-- the light overlaps are those within the bounds, each once
pub record HasEachLightOverlapOnce (A : Answer) : Type 0 where
  pub members : (o : Overlap) → Contains (light_overlaps A) o ↔ IsLightOverlap A o
  pub once : AllPairs (λ o e. o ≢ e) (light_overlaps A)

abbrev pub EachLightOverlapOnce : Type 0
EachLightOverlapOnce = (A : Answer) → IsAnswer A → HasEachLightOverlapOnce A

-- a relation or image has no tail in the light cover exactly where it has none in the full one or has no room
abbrev pub LightSourcesAreThoseWithRoom : Type 0
LightSourcesAreThoseWithRoom = (A : Answer) (d : Source)
    → (place_in (light_sources A) d ≡ None) ↔ ((place_in (all_sources A) d ≡ None) ⊎ (is_light A d ≡ false))

-- so the light cover of a canonical answer leaves out heavy commutators alone
abbrev pub LightCoversLeaveOutHeavyTails : Type 0
LightCoversLeaveOutHeavyTails = (A : Answer) → IsAnswer A → IsCanonical A → IsLightCover (light_cover_of A)

-- where a presentation with rows obeys weights, it is consistent if the overlaps within the bounds agree by some chains of pushes
abbrev pub OverlapsByWeightMakeConsistent : Type 0
OverlapsByWeightMakeConsistent = (Y : RowedPresentation) (weights : List ℕ) (e : ℕ) → IsRowed Y → ObeysWeightsTo Y weights e
    → ((o : OverlapOfPlaces) → IsOverlap Y.base.rank o → IsInsideTo weights e o → Agrees Y o) → IsConsistent (flat Y)

-- the rows span the row of each light overlap
abbrev pub SpanLightOverlaps : Answer → RowedPresentation → (State → ℕ → State) → List (List ℕ) → Type 0
SpanLightOverlaps A Z push rows = (o : Overlap) → IsLightOverlap A o → InSpan Z.base.prime Z.width rows (overlap_row Z push (overlap_of o))

-- in the light cover of an answer that is canonical and consistent, they then span the rows of all overlaps
abbrev pub LightOverlapsSpanAll : Type 0
LightOverlapsSpanAll = (A : Answer) (push : State → ℕ → State) (rows : List (List ℕ)) → IsAnswer A → IsOffered A.presentation.prime
    → IsCanonical A → IsConsistent A.presentation → IsMeaning (rowed (rowed_cover (light_cover_of A))) push
    → AreRows A.presentation.prime (length (light_sources A)) rows
    → SpanLightOverlaps A (rowed (rowed_cover (light_cover_of A))) push rows
    → SpanOverlaps (rowed (rowed_cover (light_cover_of A))) push rows

-- a row that is a light overlap's
pub record IsLightOverlapRow (A : Answer) (Z : RowedPresentation) (push : State → ℕ → State) (x : List ℕ) : Type 0 where
  pub overlap : Overlap
  pub light : IsLightOverlap A overlap
  pub same : overlap_row Z push (overlap_of overlap) ≡ x

-- the rows are those of the light overlaps, in any order, and any of them more than once
pub record AreLightOverlapRows (A : Answer) (Z : RowedPresentation) (push : State → ℕ → State) (rows : List (List ℕ)) : Type 0 where
  pub every : (o : Overlap) → IsLightOverlap A o → Contains rows (overlap_row Z push (overlap_of o))
  pub only : All (IsLightOverlapRow A Z push) rows

-- the entry of a row at a place, or 0 where there is none
abbrev pub entry_at : List ℕ → Option ℕ → ℕ
entry_at x None = 0
entry_at x (Some t) = get_or x (t - 1) 0

-- a row over the light tails as a row over all tails, with 0 for each that was left out
abbrev pub extended : Answer → List ℕ → List ℕ
extended A x = map (λ d. entry_at x (place_in (light_sources A) d)) (all_sources A)

-- the span of the rows of the light overlaps in the light cover is what the span of those of all overlaps in the full cover has over the
-- light tails, and each tail that was left out is in the latter
pub record HasLightSpan (A : Answer) (rows full_rows : List (List ℕ)) : Type 0 where
  pub same : (x : List ℕ) → IsNormal A.presentation.prime (length (light_sources A)) x
      → InSpan A.presentation.prime (length (light_sources A)) rows x
      ↔ InSpan A.presentation.prime (length (all_sources A)) full_rows (extended A x)
  pub left_out : (d : Source) → Contains (all_sources A) d → is_light A d ≡ false
      → InSpan A.presentation.prime (length (all_sources A)) full_rows (row_at (rowed_cover (full_cover_of A)) d)

-- for an answer that is canonical and consistent, over any two collectors
abbrev pub LightSpansAreCutFromFullSpans : Type 0
LightSpansAreCutFromFullSpans = (A : Answer) (push full_push : State → ℕ → State) (rows full_rows : List (List ℕ)) → IsAnswer A
    → IsOffered A.presentation.prime → IsCanonical A → IsConsistent A.presentation
    → IsMeaning (rowed (rowed_cover (light_cover_of A))) push → IsMeaning (rowed (rowed_cover (full_cover_of A))) full_push
    → AreLightOverlapRows A (rowed (rowed_cover (light_cover_of A))) push rows
    → AreOverlapRows (rowed (rowed_cover (full_cover_of A))) full_push full_rows → HasLightSpan A rows full_rows
