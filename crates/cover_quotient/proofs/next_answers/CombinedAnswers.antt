-- Where the tails of a cover become combinations of kept ones, the next answer is an answer: the source of a kept tail carries
-- exactly the tail of its place.
use Rattle.std.proofs.Common.{◌≡◌, ℕ, suc, ◌-◌, ◌<◌, ◌≤◌, List, length, get_or, ap, sym, ◌∙◌, subst, arith}
use Rattle.std.specs.Prelude.{All}
use Rattle.std.proofs.lemmas.List.{length-map, get_or-map}
use Rattle.std.proofs.lemmas.List.Elements.{All-from_get_or}
use Rattle.pq_base.specs.Limits.{max_class}
use Rattle.pq_base.specs.Answer.{Definition as Source, IsAnswer, class_of}
use Rattle.pq_base.specs.Answer.Definition.{image}
use Rattle.fp_echelon.specs.Span.{AreRows}
use Rattle.pc_presentation.specs.Pcp.{unit_row}
use Rattle.p_cover.specs.RowedAnswer.{IsRowedAnswer, row_at}
use Rattle.pq_base.specs.EntryWords.{IsSourceOf}
use Rattle.p_cover.specs.Covers.{CoverOf, rowed_cover}
use Rattle.cover_quotient.specs.Combinations.{TailCombinations, AreKept}
use Rattle.cover_quotient.specs.Carried.{carried}
use Rattle.cover_quotient.specs.NextAnswer.{sources_at, combined_cover, combined_answer}
use Rattle.cover_quotient.specs.NextParts.{IsPlace}
use Rattle.cover_quotient.specs.Defining.{MayBeKept}
use Rattle.cover_quotient.proofs.carried_rows.CarriedAnswers.{row_at-carried, carried-rowed_answer}
use Rattle.cover_quotient.proofs.carried_rows.UnitRows.{combine-unit_row}
use Rattle.cover_quotient.proofs.kept_tails.CoverUnits.{HasUnitRows}
use Rattle.cover_quotient.proofs.next_answers.NextAnswers.{IsSourceOfTail, next-answer}

module _ (C : CoverOf) (K : TailCombinations) (units : HasUnitRows C) (big : 1 < C.answer.presentation.prime)
    (are : AreRows C.answer.presentation.prime (length K.kept) K.rows) (count : length K.rows ≡ length C.sources) (kept : AreKept K) where
  pub combined-rowed : IsRowedAnswer (combined_cover C K)
  combined-rowed = carried-rowed_answer (rowed_cover C) units.rowed (omega arith) (length K.kept) K.rows are

  -- the source of a kept tail
  source : (t : ℕ) → t < length K.kept
      → get_or C.sources (get_or K.kept t 0 - 1) (image 0) ≡ get_or (sources_at K.kept C.sources) t (image 0)
  source t l = sym (get_or-map (λ (c : ℕ). get_or C.sources (c - 1) (image 0)) K.kept t 0 (image 0) l)

  pub length-sources : length (sources_at K.kept C.sources) ≡ length K.kept
  length-sources = length-map K.kept (λ (c : ℕ). get_or C.sources (c - 1) (image 0))

  pub source-is : (t : ℕ) → t < length K.kept → IsSourceOf C.answer (get_or (sources_at K.kept C.sources) t (image 0))
  source-is t l =
      let at = kept t l in
      let first = at.first in
      let last = at.last in
      subst (λ (d : Source). IsSourceOf C.answer d) (source t l) (units.sources (get_or K.kept t 0 - 1) (omega arith))

  -- its row is carried to the unit row of its place
  source-row : (t : ℕ) → t < length K.kept
      → row_at (combined_cover C K) (get_or C.sources (get_or K.kept t 0 - 1) (image 0)) ≡ unit_row (length K.kept) (suc t)
  source-row t l =
      let at = kept t l in
      let first = at.first in
      let last = at.last in
      let c : ℕ = get_or K.kept t 0 in
      let place : suc (c - 1) ≡ c = omega arith in
      let within : c - 1 < length C.sources = omega arith in
      row_at-carried (rowed_cover C) units.rowed (omega arith) (length K.kept) K.rows are (get_or C.sources (c - 1) (image 0))
      (units.sources (c - 1) within)
      ∙ ap (carried C.answer.presentation.prime (length K.kept) K.rows) (units.rows (c - 1) within ∙ ap (unit_row (length C.sources)) place)
      ∙ combine-unit_row C.answer.presentation.prime (length K.kept) (length C.sources) c K.rows (omega arith) are count first (omega arith)
      ∙ at.itself

  module _ (may : All (MayBeKept C.answer (class_of C.answer)) (sources_at K.kept C.sources)) where
    source-of_tail : (t : ℕ) → t < length K.kept → IsSourceOfTail (combined_cover C K) t (get_or (sources_at K.kept C.sources) t (image 0))
    source-of_tail t l =
        let long = length-sources in
        record {
          source = source-is t l;
          allowed = may t (image 0) (omega arith);
          row = subst (λ (d : Source). row_at (combined_cover C K) d ≡ unit_row (length K.kept) (suc t)) (source t l) (source-row t l);
        }

    pub combined-answer : class_of C.answer < max_class → IsAnswer (combined_answer C K)
    combined-answer few =
        next-answer (combined_cover C K) combined-rowed (omega arith) (sources_at K.kept C.sources) length-sources source-of_tail few

-- the kept tails are places of sources
pub kept-places : (C : CoverOf) (K : TailCombinations) → length K.rows ≡ length C.sources → AreKept K → All (IsPlace C.sources) K.kept
kept-places C K count kept =
    All-from_get_or (IsPlace C.sources) K.kept 0 (λ k l.
    let at = kept k l in
    let first = at.first in
    let last = at.last in
    record { first = first; last = omega arith })
