-- In the light cover of an answer that is canonical and consistent, rows that span those of the light overlaps span those of all
-- overlaps, whose words are trivial. And a row over the light tails is in that span exactly where the same row, with 0 for each tail
-- that was left out, is in the span of the rows of all overlaps in the full cover, where what was left out is too.
use Rattle.std.proofs.Common.{◌≡◌, ◌↔◌, ◌<◌, ℕ, false, List, [], length, sym, subst, arith}
use Rattle.std.specs.List.{All, Contains}
use Rattle.std.proofs.lemmas.List.Elements.{All-weaker}
use Rattle.pq_base.specs.Presentation.{IsNormal, word_from}
use Rattle.pq_base.specs.Joined.{Joined, IsConsistent}
use Rattle.pq_base.specs.Prime.{IsOffered}
use Rattle.pq_base.specs.Answer.{Answer, Definition as Source, IsAnswer}
use Rattle.pq_base.specs.Canonical.{IsCanonical}
use Rattle.fp_rows.specs.Rows.{IsRow}
use Rattle.fp_echelon.specs.Span.{AreRows, InSpan}
use Rattle.pc_presentation.specs.Rowed.{RowedPresentation, flat}
use Rattle.pc_presentation.specs.Collection.{State}
use Rattle.pc_presentation.specs.Arithmetic.{IsMeaning}
use Rattle.pc_presentation.specs.OverlapRows.{overlap_row}
use Rattle.pc_presentation.specs.OverlapNumbers.{overlap_of}
use Rattle.pc_presentation.proofs.consistent.OverlapRows.{overlap_row-row, overlap_row-trivial_over}
use Rattle.pc_presentation.proofs.consistent.OverlapNumberLaws.{overlap_of-is}
use Rattle.p_cover.specs.RowedAnswer.{rowed, row_at}
use Rattle.p_cover.specs.Covers.{all_sources, rowed_cover}
use Rattle.p_cover.specs.CoverLaws.{IsSource}
use Rattle.p_cover.proofs.CoverRows.{row_at-source}
use Rattle.p_cover.proofs.SourcesOnce.{each_source_once}
use Rattle.cover_quotient.specs.OverlapRows.{AreOverlapRows}
use Rattle.cover_quotient.specs.Stages.{full_cover_of}
use Rattle.cover_quotient.proofs.carried_rows.CarriedRows.{normal_from_row}
use Rattle.cover_quotient.proofs.carried_rows.RowWords.{span-trivial}
use Rattle.cover_quotient.proofs.spans.OverlapRows.{AreRows-from_all, InSpan-contained, trivial_rows_are_the_span}
use Rattle.tails_by_weight.specs.LightCovers.{is_light, light_sources, light_cover_of}
use Rattle.tails_by_weight.specs.WeightLaws.{SpanLightOverlaps, LightOverlapsSpanAll, IsLightOverlapRow, AreLightOverlapRows, extended}
use Rattle.tails_by_weight.specs.WeightLaws.{LightSpansAreCutFromFullSpans}
use Rattle.tails_by_weight.proofs.light.LightRows.{full_row-row, extended-row}
use Rattle.tails_by_weight.proofs.light.LightWords.{light_cover-rowed, full_cover-rowed, left_out-trivial, trivial_in_light}
use Rattle.tails_by_weight.proofs.light.LightWords.{trivial_in_full}
use Rattle.tails_by_weight.proofs.light.LightQuotients.{trivial_in_light_span}

pub light_overlaps_span_all : LightOverlapsSpanAll
light_overlaps_span_all A push rows is offered canonical consistent meaning are spans o h =
    let p : ℕ = A.presentation.prime in
    let w : ℕ = length (light_sources A) in
    let L : RowedPresentation = rowed (rowed_cover (light_cover_of A)) in
    let some = is.presentation.prime in
    let L_rowed = light_cover-rowed A is canonical in
    trivial_in_light_span A is canonical consistent push meaning offered rows are spans (overlap_row L push o)
    (normal_from_row p w (overlap_row L push o) (overlap_row-row L L_rowed (omega arith) push meaning o h))
    (overlap_row-trivial_over L L_rowed (omega arith) push meaning o h consistent)

module _ (A : Answer) (is : IsAnswer A) (offered : IsOffered A.presentation.prime) (canonical : IsCanonical A)
    (consistent : IsConsistent A.presentation) where
  abbrev L : RowedPresentation
  L = rowed (rowed_cover (light_cover_of A))

  abbrev F : RowedPresentation
  F = rowed (rowed_cover (full_cover_of A))

  abbrev p : ℕ
  p = A.presentation.prime

  abbrev w : ℕ
  w = length (light_sources A)

  big : 1 < p
  big = let h = is.presentation.prime in omega arith

  -- over the light tails
  module _ (push : State → ℕ → State) (meaning : IsMeaning (rowed (rowed_cover (light_cover_of A))) push) (rows : List (List ℕ))
      (overlaps : AreLightOverlapRows A (rowed (rowed_cover (light_cover_of A))) push rows) where
    light_overlap_rows-are_rows : AreRows p w rows
    light_overlap_rows-are_rows =
        AreRows-from_all p w rows
        (All-weaker (IsLightOverlapRow A L push) (λ (r : List ℕ). IsRow p w r)
        (λ x h.
        subst (λ (r : List ℕ). IsRow p w r) h.same
        (overlap_row-row L (light_cover-rowed A is canonical) big push meaning (overlap_of h.overlap)
        (overlap_of-is A.presentation.rank h.overlap h.light.numbers)))
        rows overlaps.only)

    light_overlap_rows-span : SpanLightOverlaps A L push rows
    light_overlap_rows-span o h =
        InSpan-contained p w rows (overlap_row L push (overlap_of o)) big light_overlap_rows-are_rows (overlaps.every o h)

    light_overlap_rows-trivial : All (λ (r : List ℕ). Joined (flat L) (word_from A.presentation.rank r) []) rows
    light_overlap_rows-trivial =
        All-weaker (IsLightOverlapRow A L push) (λ (r : List ℕ). Joined (flat L) (word_from A.presentation.rank r) [])
        (λ x h.
        subst (λ (r : List ℕ). Joined (flat L) (word_from A.presentation.rank r) []) h.same
        (overlap_row-trivial_over L (light_cover-rowed A is canonical) big push meaning (overlap_of h.overlap)
        (overlap_of-is A.presentation.rank h.overlap h.light.numbers) consistent))
        rows overlaps.only

    trivial-light_span : (x : List ℕ) → IsNormal p w x → Joined (flat L) (word_from A.presentation.rank x) [] ↔ InSpan p w rows x
    trivial-light_span x h = (
      λ c.
          trivial_in_light_span A is canonical consistent push meaning offered rows light_overlap_rows-are_rows light_overlap_rows-span x h
          c,
      λ s.
          span-trivial L (light_cover-rowed A is canonical) (omega arith) rows light_overlap_rows-are_rows light_overlap_rows-trivial x s,
    )

  -- over all tails
  module _ (push : State → ℕ → State) (meaning : IsMeaning (rowed (rowed_cover (full_cover_of A))) push) (rows : List (List ℕ))
      (overlaps : AreOverlapRows (rowed (rowed_cover (full_cover_of A))) push rows) where
    trivial-full_span : (x : List ℕ) → IsNormal p (length (all_sources A)) x
        → Joined (flat F) (word_from A.presentation.rank x) [] ↔ InSpan p (length (all_sources A)) rows x
    trivial-full_span x h = trivial_rows_are_the_span F push rows (full_cover-rowed A is canonical) offered meaning consistent overlaps x h

    left_out-in_span : (d : Source) → Contains (all_sources A) d → is_light A d ≡ false
        → InSpan p (length (all_sources A)) rows (row_at (rowed_cover (full_cover_of A)) d)
    left_out-in_span d c h =
        let source : IsSource A d = (((each_source_once A is).members d).0 c).0 in
        let row : IsRow p (length (all_sources A)) (row_at (rowed_cover (full_cover_of A)) d) =
        subst (λ (x : List ℕ). IsRow p (length (all_sources A)) x) (sym (row_at-source A (all_sources A) d source)) (full_row-row A is d) in
        (trivial-full_span (row_at (rowed_cover (full_cover_of A)) d)
        (normal_from_row p (length (all_sources A)) (row_at (rowed_cover (full_cover_of A)) d) row)).0
        (left_out-trivial A is canonical d source h)

pub light_spans_are_cut_from_full_spans : LightSpansAreCutFromFullSpans
light_spans_are_cut_from_full_spans A push push' rows rows' is offered canonical consistent meaning meaning' overlaps overlaps' = record {
  same = λ x h.
      let light = trivial-light_span A is offered canonical consistent push meaning rows overlaps x h in
      let full =
      trivial-full_span A is offered canonical consistent push' meaning' rows' overlaps' (extended A x)
      (normal_from_row A.presentation.prime (length (all_sources A)) (extended A x) (extended-row A is x h.below)) in
      (λ s. full.0 (trivial_in_full A is canonical x h (light.1 s)), λ s. light.0 (trivial_in_light A is canonical x h (full.1 s)));
  left_out = λ d c h. left_out-in_span A is offered canonical consistent push' meaning' rows' overlaps' d c h;
}
