-- The laws of the next answer: it is an answer of the next class, consistent where the span holds the overlap rows, and words
-- whose values in the cover are rows of the span are trivial in it.
use Rattle.std.proofs.Common.{◌≡◌, ℕ, ◌<◌, List, length, ap, sym, ◌∙◌, subst, arith}
use Rattle.pq_base.specs.SignedWord.{HasLetters}
use Rattle.pq_base.specs.Elementary.{zeros}
use Rattle.pq_base.specs.Presentation.{word_from}
use Rattle.std.specs.List.{All}
use Rattle.std.proofs.lemmas.List.{get_or_default}
use Rattle.pq_base.specs.EntryWords.{IsSourceOf}
use Rattle.pq_base.specs.Answer.{Answer, class_of}
use Rattle.pq_base.specs.Answer.Definition.{image}
use Rattle.pq_base.specs.Canonical.{up_to_class}
use Rattle.pq_base.proofs.words.AlongLaws.{HasLetters-IsRelator}
use Rattle.pq_base.proofs.words.WordLaws.{word_from-zeros}
use Rattle.pq_base.proofs.words.JoinedLaws.{joined-from_equal, joined-trans}
use Rattle.fp_echelon.specs.Span.{AreRows}
use Rattle.fp_echelon.specs.Reduced.{BasisRow, rows_of}
use Rattle.fp_echelon.proofs.SpanLaws.{IsRow-InSpan}
use Rattle.fp_echelon.proofs.ReductionLaws.{AreRows-reduced}
use Rattle.pc_presentation.specs.Rowed.{flat}
use Rattle.pq_base.proofs.PrimeLaws.{offered-two}
use Rattle.p_cover.specs.RowedAnswer.{rowed}
use Rattle.p_cover.specs.Covers.{CoverOf, rowed_cover}
use Rattle.pc_presentation.proofs.rows.RowedClass.{classes_grow_by_one_with_rows}
use Rattle.cover_quotient.specs.Carried.{carried}
use Rattle.cover_quotient.specs.Kept.{kept_columns, kept_rows}
use Rattle.cover_quotient.specs.NextAnswer.{kept_sources, cover_modulo}
use Rattle.cover_quotient.specs.AnswerLaws.{IsBasisOver, QuotientsAreRowedAnswers, NextAnswersAreAnswers, NextAnswersKeepTheClassesBefore}
use Rattle.cover_quotient.specs.AnswerLaws.{NothingKeptChangesNothing, NextAnswersHaveTheNextClass, NextAnswersAreConsistent}
use Rattle.cover_quotient.specs.AnswerLaws.{ValuesAreCarried, WordsOfTheSpanDie, NextAnswersKill, SpellingsArePreserved}
use Rattle.cover_quotient.proofs.carried_rows.CarriedRows.{normal_from_row}
use Rattle.cover_quotient.proofs.kept_tails.KeptRows.{length-kept_rows, kept_rows-are_rows, carried-zero}
use Rattle.cover_quotient.proofs.spans.ConsistentQuotients.{quotients_by_overlap_rows_are_consistent}
use Rattle.cover_quotient.proofs.next_answers.NextClass.{next-class, next-restricts}
use Rattle.pq_base.proofs.Restrictions.{restrictions_compose}
use Rattle.cover_quotient.proofs.next_answers.NothingKept.{next-unchanged}
use Rattle.cover_quotient.proofs.next_answers.NextValues.{value-carried, row_value-carried}
use Rattle.cover_quotient.proofs.next_answers.NextSpellings.{old-spelling, new-spelling}
use Rattle.cover_quotient.proofs.kept_tails.EliminatedAnswers.{modulo-rowed, kept_source-is, length-kept_sources, kept_answer}
use Rattle.cover_quotient.proofs.kept_tails.CoverUnits.{HasUnitRows, cover-units}

module _ (C : CoverOf) (bs : List BasisRow) (basis : IsBasisOver C bs) where
  big : 1 < C.answer.presentation.prime
  big = offered-two C.answer.presentation.prime basis.prime

  units : HasUnitRows C
  units = cover-units C basis.cover big

  are : AreRows C.answer.presentation.prime (length (kept_columns (length C.sources) bs))
      (kept_rows C.answer.presentation.prime (length C.sources) bs)
  are = kept_rows-are_rows C.answer.presentation.prime (length C.sources) big bs basis.reduced

pub quotients_are_rowed_answers : QuotientsAreRowedAnswers
quotients_are_rowed_answers C bs basis = modulo-rowed C (units C bs basis) (big C bs basis) bs basis.reduced

pub next_answers_are_answers : NextAnswersAreAnswers
next_answers_are_answers C bs basis may few some =
    let is = quotients_are_rowed_answers C bs basis in
    record {
      answer = kept_answer C (units C bs basis) (big C bs basis) bs basis.reduced may few;
      class = next-class (cover_modulo C bs) is (kept_sources C bs) some;
      restricts = next-restricts (cover_modulo C bs) is (kept_sources C bs);
    }

pub next_answers_keep_the_classes_before : NextAnswersKeepTheClassesBefore
next_answers_keep_the_classes_before A N next j l =
    sym (restrictions_compose N next.answer j (class_of A) l) ∙ ap (λ (B : Answer). up_to_class B j) next.restricts

pub nothing_kept_changes_nothing : NothingKeptChangesNothing
nothing_kept_changes_nothing C bs basis none =
    let more = big C bs basis in
    next-unchanged (cover_modulo C bs) (quotients_are_rowed_answers C bs basis) (omega arith) (kept_sources C bs)
    (length-kept_sources C (units C bs basis) (big C bs basis) bs basis.reduced) (ap length none)

pub next_answers_have_the_next_class : NextAnswersHaveTheNextClass
next_answers_have_the_next_class C bs basis c class =
    classes_grow_by_one_with_rows (rowed (cover_modulo C bs)) (quotients_are_rowed_answers C bs basis).presentation c class

pub next_answers_are_consistent : NextAnswersAreConsistent
next_answers_are_consistent C bs push h =
    quotients_by_overlap_rows_are_consistent (rowed (rowed_cover C)) push bs (units C bs h.over).rowed.presentation h.over.prime h.meaning
    h.consistent h.over.reduced h.overlaps

pub values_are_carried : ValuesAreCarried
values_are_carried C bs basis w h =
    let more = big C bs basis in
    value-carried (rowed_cover C) (units C bs basis).rowed (omega arith) (length (kept_columns (length C.sources) bs))
    (kept_rows C.answer.presentation.prime (length C.sources) bs) (are C bs basis)
    (length-kept_rows C.answer.presentation.prime (length C.sources) bs) (kept_sources C bs) w h

pub words_of_the_span_die : WordsOfTheSpanDie
words_of_the_span_die C bs basis w x h spanned c =
    let more = big C bs basis in
    let p : ℕ = C.answer.presentation.prime in
    let q : ℕ = length C.sources in
    let s : ℕ = length (kept_columns (length C.sources) bs) in
    let row = IsRow-InSpan p q (rows_of bs) x (omega arith) (AreRows-reduced p q bs basis.reduced) spanned in
    let none : carried p s (kept_rows p q bs) x ≡ zeros s = (carried-zero p q more bs basis.reduced x row).1 spanned in
    let value =
    row_value-carried (rowed_cover C) (units C bs basis).rowed (omega arith) s (kept_rows p q bs) (are C bs basis) (length-kept_rows p q bs)
    (kept_sources C bs) w x h (normal_from_row p q x row) c in
    joined-trans value
    (joined-from_equal (flat (rowed (cover_modulo C bs)))
    (ap (word_from C.answer.presentation.rank) none ∙ word_from-zeros C.answer.presentation.rank s))

pub next_answers_kill : NextAnswersKill
next_answers_kill C bs L basis is same spanned r h =
    let s = spanned r h in
    words_of_the_span_die C bs basis r s.row
    (subst (λ (names : List (List ℕ)). HasLetters (length names) r) same (HasLetters-IsRelator L is h)) s.span s.joined

pub spellings_are_preserved : SpellingsArePreserved
spellings_are_preserved C bs basis =
    let count : length (kept_sources C bs) ≡ length (kept_columns (length C.sources) bs) =
    length-kept_sources C (units C bs basis) (big C bs basis) bs basis.reduced in
    let is = (quotients_are_rowed_answers C bs basis).answer in
    let all : All (IsSourceOf C.answer) (kept_sources C bs) =
    λ i d l.
    subst (IsSourceOf C.answer) (get_or_default (kept_sources C bs) i (image 0) d l)
    (kept_source-is C (units C bs basis) (big C bs basis) bs basis.reduced i (omega arith)) in
    record {
      old = old-spelling (cover_modulo C bs) is (kept_sources C bs) all;
      new = λ t l. new-spelling (cover_modulo C bs) is (kept_sources C bs) all t (omega arith);
    }
