-- One step over a canonical and consistent answer, by all tails, whose next answer is consistent and kills the relators: then the span
-- holds the rows of all overlaps, since they are trivial in the next answer, so each kept tail may define a generator, and the next
-- answer is canonical.
use Rattle.std.proofs.Common.{◌≡◌, ◌<◌, ◌≤◌, ℕ, zero, suc, ℤ, List, [], length, refl, ap, sym, ◌∙◌, subst, arith}
use Rattle.pq_base.specs.Limits.{max_class}
use Rattle.pq_base.specs.SignedWord.{sub}
use Rattle.pq_base.specs.Table.{value}
use Rattle.pq_base.specs.LPresentation.{LPresentation, IsRelator, Obeys}
use Rattle.pq_base.specs.Presentation.{IsNormal, word_from}
use Rattle.pq_base.specs.Joined.{Joined, IsConsistent}
use Rattle.pq_base.specs.Answer.{class_of}
use Rattle.pq_base.specs.Canonical.{IsCanonical}
use Rattle.pq_base.specs.Largest.{Kills}
use Rattle.pq_base.proofs.PrimeLaws.{offered-two}
use Rattle.pq_base.proofs.words.JoinedLaws.{joined-sym, joined-trans}
use Rattle.pq_base.proofs.tables.TableGroup.{value-sub, value-joined}
use Rattle.fp_echelon.specs.Span.{AreRows, InSpan}
use Rattle.fp_echelon.specs.Reduced.{BasisRow, rows_of}
use Rattle.pc_presentation.specs.Rowed.{RowedPresentation, IsRowed, flat}
use Rattle.pc_presentation.specs.Collection.{State, plain_push}
use Rattle.pc_presentation.specs.Arithmetic.{IsMeaning}
use Rattle.pc_presentation.specs.NormalTable.{generator_numbers}
use Rattle.pc_presentation.specs.OverlapRows.{overlap_row}
use Rattle.pc_presentation.proofs.consistent.OverlapRows.{overlap_row-row, overlap_row-trivial_over}
use Rattle.pc_presentation.proofs.quotients.CollectorArithmetic.{plain_rule_is_a_meaning}
use Rattle.p_cover.specs.RowedAnswer.{RowedAnswer, rowed, rowed_images}
use Rattle.p_cover.specs.Covers.{CoverOf, all_sources, rowed_cover}
use Rattle.p_cover.proofs.CoverRows.{covers_are_rowed_answers}
use Rattle.cover_quotient.specs.AnswerLaws.{IsBasisOver, HoldsOverlaps, kept_count}
use Rattle.cover_quotient.specs.Carried.{carried, carried_presentation}
use Rattle.cover_quotient.specs.Defining.{KeptMayDefine}
use Rattle.cover_quotient.specs.Fits.{Fits}
use Rattle.cover_quotient.specs.Kept.{kept_columns, kept_rows}
use Rattle.cover_quotient.specs.KeptTailLaws.{flat_table, image_elements}
use Rattle.cover_quotient.specs.NextAnswer.{cover_modulo, eliminated}
use Rattle.cover_quotient.specs.OverlapRows.{SpanOverlaps}
use Rattle.cover_quotient.proofs.canonical_answers.CanonicalAnswers.{next_answers_are_canonical}
use Rattle.cover_quotient.proofs.canonical_answers.ReadyAnswers.{consistent_answers_are_ready}
use Rattle.cover_quotient.proofs.carried_rows.CarriedRows.{row_from_normal, normal_from_row}
use Rattle.cover_quotient.proofs.carried_rows.CarriedPresentations.{carried-rowed, carry-normal}
use Rattle.cover_quotient.proofs.carried_rows.CarriedWords.{words-mapped}
use Rattle.cover_quotient.proofs.fitting.FittingLaws.{full_covers_fit}
use Rattle.cover_quotient.proofs.kept_tails.KeptRows.{length-kept_rows, kept_rows-are_rows, carried-zero}
use Rattle.cover_quotient.proofs.qualifying.KeptTailLaws.{kept_images_may_define, kept_tails_may_define}
use Rattle.cover_quotient.proofs.spans.TrivialRows.{trivial_row-zero}
use Rattle.cover_quotient.proofs.stages.CoverTables.{modulo-table, image_elements-below, length-image_elements, image_words-modulo}
use Rattle.valid_certificates.specs.ReachedAnswers.{IsReached}

-- the step
pub record IsCanonicalStep (L : LPresentation) (p k : ℕ) (C : CoverOf) (bs : List BasisRow) : Type 0 where
  pub over : IsBasisOver C bs
  pub full : C.sources ≡ all_sources C.answer
  pub reached : IsReached L p k C.answer
  pub consistent : IsConsistent C.answer.presentation
  pub canonical : IsCanonical C.answer
  pub next_consistent : IsConsistent (eliminated C bs).presentation
  pub next_kills : Kills L (eliminated C bs)

module _ (L : LPresentation) (p k : ℕ) (C : CoverOf) (bs : List BasisRow) (step : IsCanonicalStep L p k C bs) where
  abbrev Z : RowedPresentation
  Z = rowed (rowed_cover C)

  abbrev push : State → ℕ → State
  push = plain_push (rowed (rowed_cover C))

  big : 1 < C.answer.presentation.prime
  big = let two = offered-two C.answer.presentation.prime step.over.prime in omega arith

  is_rowed : IsRowed (rowed (rowed_cover C))
  is_rowed = (covers_are_rowed_answers C.answer C.sources step.over.cover.answer step.over.cover.sources).0.presentation

  meaning : IsMeaning (rowed (rowed_cover C)) (plain_push (rowed (rowed_cover C)))
  meaning = plain_rule_is_a_meaning Z is_rowed

  -- a row whose word is trivial is in the span
  module _ (x : List ℕ) (row : IsNormal C.answer.presentation.prime (length C.sources) x)
      (trivial : Joined (flat (rowed (rowed_cover C))) (word_from C.answer.presentation.rank x) []) where
    abbrev width : ℕ
    width = length (kept_columns (length C.sources) bs)

    abbrev rows : List (List ℕ)
    rows = kept_rows C.answer.presentation.prime (length C.sources) bs

    abbrev Q : RowedPresentation
    Q = carried_presentation (length (kept_columns (length C.sources) bs)) (kept_rows C.answer.presentation.prime (length C.sources) bs) Z

    are : AreRows C.answer.presentation.prime width rows
    are = kept_rows-are_rows C.answer.presentation.prime (length C.sources) big bs step.over.reduced

    carried-trivial : Joined (flat Q) (word_from C.answer.presentation.rank (carried C.answer.presentation.prime width rows x)) []
    carried-trivial =
        let b = big in
        let words =
        words-mapped Z is_rowed (omega arith) width rows are (length-kept_rows C.answer.presentation.prime (length C.sources) bs) in
        joined-trans (joined-sym (words.row_words x row)) (words.joined (word_from C.answer.presentation.rank x) [] trivial)

    trivial-spanned : InSpan C.answer.presentation.prime (length C.sources) (rows_of bs) x
    trivial-spanned =
        let b = big in
        (carried-zero C.answer.presentation.prime (length C.sources) big bs step.over.reduced x
        (row_from_normal C.answer.presentation.prime (length C.sources) x row)).0
        (trivial_row-zero Q (carried-rowed Z is_rowed (omega arith) width rows are) (omega arith) step.next_consistent
        (carried C.answer.presentation.prime width rows x) (carry-normal Z is_rowed (omega arith) width rows are x) carried-trivial)

  spans : SpanOverlaps (rowed (rowed_cover C)) (plain_push (rowed (rowed_cover C))) (rows_of bs)
  spans o h =
      trivial-spanned (overlap_row Z push o)
      (normal_from_row C.answer.presentation.prime (length C.sources) (overlap_row Z push o)
      (overlap_row-row Z is_rowed big push meaning o h))
      (overlap_row-trivial_over Z is_rowed big push meaning o h step.consistent)

  holds : HoldsOverlaps C bs (plain_push (rowed (rowed_cover C)))
  holds = record { over = step.over; consistent = step.consistent; meaning = meaning; overlaps = spans }

  -- the table of the next answer obeys the presentation, so it fits
  abbrev Y : RowedAnswer
  Y = cover_modulo C bs

  obeys : Obeys (flat_table (cover_modulo C bs)) (image_elements (cover_modulo C bs)) L
  obeys = record {
    count = length-image_elements C bs step.over step.next_consistent ∙ ap (λ (ns : List (List ℕ)). length ns) step.reached.fitted.names;
    elements = image_elements-below C bs step.over step.next_consistent;
    kills = kills;
  } where
    kills : (r : List ℤ) → IsRelator L r → value (flat_table Y) (image_elements Y) r ≡ 0
    kills r e =
        let table = modulo-table C bs step.over step.next_consistent in
        let gens : List ℕ = generator_numbers (flat (rowed Y)) in
        let dies : Joined (flat (rowed (cover_modulo C bs))) (sub r (rowed_images (cover_modulo C bs))) [] =
        subst (λ (images : List (List ℤ)). Joined (flat (rowed (cover_modulo C bs))) (sub r images) [])
        (image_words-modulo C bs step.over step.next_consistent) (step.next_kills r e) in
        sym (value-sub (flat_table Y) table.group gens table.generators r (rowed_images Y))
        ∙ value-joined (flat_table Y) table.group gens table.generators (flat (rowed Y)) table.relators dies

  may_define : KeptMayDefine C bs
  may_define = by_class (class_of C.answer) refl where
    by_class : (n : ℕ) → class_of C.answer ≡ n → KeptMayDefine C bs
    by_class zero e = kept_images_may_define C bs step.over e
    by_class (suc n) e =
        let fits : Fits (flat_table Y) (image_elements Y) (class_of C.answer) C.answer =
        subst (λ (j : ℕ). Fits (flat_table Y) (image_elements Y) j C.answer) (sym step.reached.shows)
        (step.reached.fitted.fits (flat_table Y) (image_elements Y) (record {
          group = (modulo-table C bs step.over step.next_consistent).group;
          elements = obeys.elements;
          count = obeys.count;
          admitted = obeys;
        })) in
        kept_tails_may_define C bs push holds (omega arith)
        (consistent_answers_are_ready C.answer step.over.cover.answer step.canonical.weights step.consistent) fits
        (full_covers_fit (flat_table Y) (image_elements Y) (class_of C.answer) C
        (modulo-table C bs step.over step.next_consistent).group obeys.elements step.over.cover step.full)

  pub next-canonical : k < max_class → 1 ≤ kept_count C bs → IsCanonical (eliminated C bs)
  next-canonical few some =
      let shows = step.reached.shows in
      next_answers_are_canonical C bs push holds step.canonical may_define some (omega arith)
