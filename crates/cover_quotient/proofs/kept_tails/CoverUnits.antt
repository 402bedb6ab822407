-- A cover has unit rows: each of its sources carries exactly the tail of its place.
use Rattle.std.proofs.Common.{◌≡◌, ℕ, zero, suc, ◌-◌, ◌<◌, ◌≤◌, Some, length, get_or, ap, ◌∙◌, arith}
use Rattle.pq_base.specs.Answer.{Answer, Definition as Source, IsAnswer}
use Rattle.pq_base.specs.Answer.Definition.{image, commutator, power}
use Rattle.pc_presentation.specs.Pcp.{unit_row, row_of}
use Rattle.pq_base.specs.EntryWords.{IsSourceOf}
use Rattle.p_cover.specs.Sources.{place_in}
use Rattle.p_cover.specs.RowedAnswer.{IsRowedAnswer, row_at}
use Rattle.p_cover.specs.Covers.{rowed_cover, CoverOf, IsCover}
use Rattle.p_cover.specs.CoverLaws.{IsSource}
use Rattle.p_cover.proofs.WantMembers.{part-sources}
use Rattle.p_cover.proofs.SourcesOnce.{tails_and_sources_are_inverse}
use Rattle.p_cover.proofs.CoverRows.{row_at-source, covers_are_rowed_answers}
use Rattle.p_cover.proofs.SourceNumbers.{source-by_place}

-- an answer with rows in which source t, counted from 0, carries exactly tail t + 1
pub record HasUnitRows (C : CoverOf) : Type 0 where
  pub rowed : IsRowedAnswer (rowed_cover C)
  pub sources : (t : ℕ) → t < length C.sources → IsSourceOf C.answer (get_or C.sources t (image 0))
  pub rows : (t : ℕ) → t < length C.sources → row_at (rowed_cover C) (get_or C.sources t (image 0)) ≡ unit_row (length C.sources) (suc t)

module _ (C : CoverOf) (is : IsCover C) (big : 1 < C.answer.presentation.prime) where
  source-at : (t : ℕ) → t < length C.sources → IsSource C.answer (get_or C.sources t (image 0))
  source-at t l = part-sources C.answer is.sources t (image 0) l

  place-at : (t : ℕ) → t < length C.sources → place_in C.sources (get_or C.sources t (image 0)) ≡ Some (suc t)
  place-at t l =
      let before : suc t - 1 ≡ t = omega arith in
      (tails_and_sources_are_inverse C.answer C.sources is.sources (get_or C.sources t (image 0)) (suc t)).1
      (omega arith, omega arith, ap (λ (i : ℕ). get_or C.sources i (image 0)) before)

  pub cover-units : HasUnitRows C
  cover-units = record {
    rowed = (covers_are_rowed_answers C.answer C.sources is.answer is.sources).0;
    sources = λ t l. source-by_place C.answer is.answer (get_or C.sources t (image 0)) (source-at t l);
    rows = λ t l.
        row_at-source C.answer C.sources (get_or C.sources t (image 0)) (source-at t l)
        ∙ ap (row_of (length C.sources)) (place-at t l);
  }
