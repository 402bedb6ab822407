-- The light cover of an answer that is canonical and consistent, modulo a span that holds the rows of the light overlaps, obeys the
-- weights of the answer, so it is consistent. So a row whose word is trivial in the light cover is in each such span.
use Rattle.std.proofs.Common.{◌≡◌, ◌+◌, ◌<◌, ℕ, suc, List, [], length, replicate, inr, ap, ◌∙◌, subst, arith}
use Rattle.std.proofs.lemmas.Bool.{lt-leb}
use Rattle.pq_base.specs.Presentation.{IsNormal, word_from}
use Rattle.pq_base.specs.Joined.{Joined, IsConsistent}
use Rattle.pq_base.specs.Prime.{IsOffered}
use Rattle.pq_base.specs.Answer.{Answer, IsAnswer, class_of, weight_at}
use Rattle.pq_base.specs.Answer.Definition.{commutator}
use Rattle.pq_base.specs.Canonical.{IsCanonical}
use Rattle.pq_base.proofs.LastWeights.{weights-within_class}
use Rattle.pq_base.proofs.WeightLaws.{weights-least}
use Rattle.pq_base.proofs.words.JoinedLaws.{joined-sym, joined-trans}
use Rattle.fp_echelon.specs.Span.{AreRows, InSpan}
use Rattle.fp_echelon.specs.Reduced.{BasisRow, rows_of, IsReduced}
use Rattle.fp_echelon.proofs.EveryBasis.{reduced_basis_of}
use Rattle.fp_echelon.proofs.OfferedInverses.{HasInverses-offered}
use Rattle.pc_presentation.specs.Pcp.{row_of}
use Rattle.pc_presentation.specs.Rowed.{RowedPresentation, IsRowed, commutator_row, flat}
use Rattle.pc_presentation.specs.Collection.{State}
use Rattle.pc_presentation.specs.Arithmetic.{IsMeaning}
use Rattle.pc_presentation.specs.Overlaps.{Overlap as OverlapOfPlaces, IsOverlap}
use Rattle.pc_presentation.specs.Overlaps.Overlap.{triple, left, right, own}
use Rattle.pc_presentation.specs.OverlapRows.{overlap_row}
use Rattle.pc_presentation.specs.OverlapNumbers.{overlap_of}
use Rattle.pc_presentation.proofs.consistent.OverlapRows.{overlap_row-row}
use Rattle.pc_presentation.proofs.consistent.OverlapNumberLaws.{numbered, numbered-is, overlap_of-numbered}
use Rattle.p_cover.specs.RowedAnswer.{rowed}
use Rattle.p_cover.specs.Covers.{rowed_cover}
use Rattle.p_cover.proofs.CoverRows.{row_at-source}
use Rattle.cover_quotient.specs.Carried.{carried, carried_presentation}
use Rattle.cover_quotient.specs.Kept.{kept_columns, kept_rows}
use Rattle.cover_quotient.proofs.carried_rows.CarriedRows.{row_from_normal}
use Rattle.cover_quotient.proofs.carried_rows.CarriedPresentations.{carried-rowed, carry-normal, carry-zeros, commutator_row-carried}
use Rattle.cover_quotient.proofs.carried_rows.CarriedWords.{words-mapped}
use Rattle.cover_quotient.proofs.kept_tails.KeptRows.{length-kept_rows, kept_rows-are_rows, carried-zero}
use Rattle.cover_quotient.proofs.spans.ConsistentQuotients.{overlap_agrees}
use Rattle.cover_quotient.proofs.spans.TrivialRows.{trivial_row-zero}
use Rattle.tails_by_weight.specs.LightCovers.{light_sources, light_cover_of}
use Rattle.tails_by_weight.specs.LightOverlaps.{IsInside}
use Rattle.tails_by_weight.specs.WeightedRows.{ObeysWeightsTo, IsInsideTo}
use Rattle.tails_by_weight.specs.WeightLaws.{SpanLightOverlaps}
use Rattle.tails_by_weight.proofs.WeightedConsistency.{overlaps_by_weight_make_consistent}
use Rattle.tails_by_weight.proofs.LightSources.{light_sources_are_those_with_room}
use Rattle.tails_by_weight.proofs.light.LightWords.{light_cover-rowed}

-- the bounds by places and by numbers
inside-numbered : (A : Answer) (o : OverlapOfPlaces) → IsInsideTo A.weights (suc (class_of A)) o → IsInside A (numbered o)
inside-numbered A (triple k j i) h = h
inside-numbered A (left j i) h = h
inside-numbered A (right j i) h = h
inside-numbered A (own i) h = h

module _ (A : Answer) (is : IsAnswer A) (canonical : IsCanonical A) where
  abbrev L : RowedPresentation
  L = rowed (rowed_cover (light_cover_of A))

  abbrev p : ℕ
  p = A.presentation.prime

  abbrev w : ℕ
  w = length (light_sources A)

  big : 1 < p
  big = let h = is.presentation.prime in omega arith

  L_rowed : IsRowed L
  L_rowed = light_cover-rowed A is canonical

  -- a commutator without room has no tail
  heavy_row-zeros : (j i : ℕ) → j < A.presentation.rank → i < j → suc (class_of A) < weight_at A j + weight_at A i
      → commutator_row L j i ≡ replicate w 0
  heavy_row-zeros j i l m heavy =
      row_at-source A (light_sources A) (commutator (suc j) (suc i)) (omega arith, omega arith, omega arith)
      ∙ ap (row_of w)
      ((light_sources_are_those_with_room A (commutator (suc j) (suc i))).1
      (inr (lt-leb (weight_at A j + weight_at A i) (suc (class_of A)) heavy)))

  -- with its rows carried along any map
  light_quotients-obey : (width : ℕ) (rows : List (List ℕ)) → AreRows p width rows
      → ObeysWeightsTo (carried_presentation width rows L) A.weights (suc (class_of A))
  light_quotients-obey width rows are = record {
    from_one = λ i l. let count = is.weight_count in weights-least 1 A.weights is.weights i (omega arith);
    at_most = λ i l. let most = weights-within_class A is i l in omega arith;
    commutators = canonical.weights.commutators;
    powers = canonical.weights.powers;
    commutator_rows = λ j i l m heavy.
        commutator_row-carried L L_rowed (omega arith) width rows are j i l m
        ∙ ap (carried p width rows) (heavy_row-zeros j i l m heavy)
        ∙ carry-zeros L L_rowed (omega arith) width rows are;
    power_rows = λ i l last. let most = weights-within_class A is i l in absurd (omega arith);
  }

  module _ (consistent : IsConsistent A.presentation) (push : State → ℕ → State)
      (meaning : IsMeaning (rowed (rowed_cover (light_cover_of A))) push) where
    spanned-by_places : (rows : List (List ℕ)) → SpanLightOverlaps A L push rows → (o : OverlapOfPlaces) → IsOverlap A.presentation.rank o
        → IsInsideTo A.weights (suc (class_of A)) o → InSpan p w rows (overlap_row L push o)
    spanned-by_places rows spans o h inside =
        subst (λ (e : OverlapOfPlaces). InSpan p w rows (overlap_row L push e)) (overlap_of-numbered o)
        (spans (numbered o) (record { numbers = numbered-is A.presentation.rank o h; inside = inside-numbered A o inside }))

    module _ (bs : List BasisRow) (reduced : IsReduced A.presentation.prime (length (light_sources A)) bs)
        (spans : SpanLightOverlaps A (rowed (rowed_cover (light_cover_of A))) push (rows_of bs)) where
      abbrev width : ℕ
      width = length (kept_columns (length (light_sources A)) bs)

      abbrev rows : List (List ℕ)
      rows = kept_rows A.presentation.prime (length (light_sources A)) bs

      abbrev Y : RowedPresentation
      Y = carried_presentation width rows L

      are : AreRows p width rows
      are = kept_rows-are_rows p w big bs reduced

      light_quotient-consistent : IsConsistent (flat Y)
      light_quotient-consistent =
          overlaps_by_weight_make_consistent Y A.weights (suc (class_of A)) (carried-rowed L L_rowed (omega arith) width rows are)
          (light_quotients-obey width rows are)
          (λ o h inside.
          overlap_agrees L L_rowed big push meaning width rows are consistent o h
          ((carried-zero p w big bs reduced (overlap_row L push o) (overlap_row-row L L_rowed big push meaning o h)).1
          (spanned-by_places (rows_of bs) spans o h inside)))

      in_reduced_span : (x : List ℕ) → IsNormal p w x → Joined (flat L) (word_from A.presentation.rank x) [] → InSpan p w (rows_of bs) x
      in_reduced_span x h c =
          let words = words-mapped L L_rowed (omega arith) width rows are (length-kept_rows p w bs) in
          let trivial : Joined (flat Y) (word_from A.presentation.rank (carried p width rows x)) [] =
          joined-trans (joined-sym (words.row_words x h)) (words.joined (word_from A.presentation.rank x) [] c) in
          (carried-zero p w big bs reduced x (row_from_normal p w x h)).0
          (trivial_row-zero Y (carried-rowed L L_rowed (omega arith) width rows are) (omega arith) light_quotient-consistent
          (carried p width rows x) (carry-normal L L_rowed (omega arith) width rows are x) trivial)

    pub trivial_in_light_span : IsOffered A.presentation.prime → (rows : List (List ℕ))
        → AreRows A.presentation.prime (length (light_sources A)) rows
        → SpanLightOverlaps A (rowed (rowed_cover (light_cover_of A))) push rows → (x : List ℕ)
        → IsNormal A.presentation.prime (length (light_sources A)) x
        → Joined (flat (rowed (rowed_cover (light_cover_of A)))) (word_from A.presentation.rank x) []
        → InSpan A.presentation.prime (length (light_sources A)) rows x
    trivial_in_light_span offered rows are spans x h c =
        let basis = reduced_basis_of p w big (HasInverses-offered p offered) rows are in
        (basis.spans x).1
        (in_reduced_span basis.basis basis.reduced
        (λ o light. (basis.spans (overlap_row L push (overlap_of o))).0 (spans o light)) x h c)
