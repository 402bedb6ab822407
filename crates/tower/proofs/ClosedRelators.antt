-- A closure holds the rows of all iterated relators along endomorphisms. A span that holds the overlap rows, and for each name of the
-- closure a row of the relator named, holds the closure: trivial rows are in it, and two rows of one word differ by a trivial row. So
-- such a span holds a row of each iterated relator along endomorphisms, and the closure itself needs no inserting.
use Rattle.std.proofs.Common.{◌≡◌, ℕ, ◌<◌, ◌≤◌, ℤ, List, [], ◌∷◌, ◌++◌, get_or, length, sym, subst, arith}
use Rattle.std.specs.List.{All, Contains}
use Rattle.std.proofs.lemmas.List.Elements.{All-head, All-tail, All-weaker, All-contains_itself}
use Rattle.pq_base.specs.LPresentation.{LPresentation, IsLPresentation, IsRelator, AreEndoNumbers, part}
use Rattle.pq_base.specs.LPresentation.IsRelator.{fixed_relator, iterated_relator}
use Rattle.pq_base.specs.LPresentation.Part.{iterated_part}
use Rattle.pq_base.specs.Joined.{IsConsistent}
use Rattle.pq_base.specs.Prime.{IsOffered}
use Rattle.pq_base.proofs.words.JoinedLaws.{joined-sym, joined-trans}
use Rattle.fp_rows.specs.Row.{PrimeRow}
use Rattle.fp_echelon.specs.Span.{AreRows, InSpan, EachInSpan}
use Rattle.fp_echelon.specs.Basis.{Echelon}
use Rattle.fp_echelon.specs.Matrix.{PrimeMatrix, entries_of}
use Rattle.fp_echelon.proofs.SpanLaws.{IsRow-InSpan, InSpan-trans}
use Rattle.pc_presentation.specs.Collection.{State}
use Rattle.pc_presentation.specs.Arithmetic.{IsMeaning}
use Rattle.p_cover.specs.RowedAnswer.{rowed}
use Rattle.p_cover.specs.Covers.{CoverOf, IsCover, rowed_cover}
use Rattle.cover_quotient.specs.AnswerLaws.{HasRowOf}
use Rattle.cover_quotient.specs.OverlapRows.{SpanOverlaps}
use Rattle.derivation_log.proofs.RowSources.{row_of_source-joined}
use Rattle.relator_spin.specs.declared.spun.Spun.{Spun}
use Rattle.relator_spin.specs.Closure.{row_along, spun_row, spun_rows, AreNames}
use Rattle.relator_spin.proofs.SpanParts.{EachInSpan-append}
use Rattle.tower.specs.NamedParts.{recorded_source}
use Rattle.tower.specs.StepRows.{HasSpannedRow}
use Rattle.tower.specs.SpunParts.{spun_relator, spun_relators, AreLifts, AreGivenRows}
use Rattle.tower.specs.Closing.{IsTrivialRow, SufficeIn}
use Rattle.tower.proofs.ClosedRows.{trivial-spanned, same-spanned}
use Rattle.tower.proofs.SpunRows.{along-row, IsRow-spun_row, spun-row}
use Rattle.tower.proofs.TakenSources.{contained-map}

-- what a closure adds to rows over a cover: named rows, which with the rows there were span all products
pub record AreClosed (C : CoverOf) (xs : List PrimeRow) (ms : List PrimeMatrix) (o : List (List ℕ)) (names : List Spun)
    (added : List (List ℕ)) : Type 0 where
  pub made : added ≡ o ++ spun_rows C.answer.presentation.prime (length C.sources) xs ms names
  pub named : AreNames (length xs) (length ms) names
  pub images : (i : ℕ) → i < length xs → (s : List ℕ) → AreEndoNumbers (length ms) s
      → InSpan C.answer.presentation.prime (length C.sources) added
      (row_along C.answer.presentation.prime (length C.sources) ms s (get_or (entries_of xs) i []))

-- all products of given rows are in the span
abbrev pub HoldsProducts : ℕ → ℕ → List PrimeRow → List PrimeMatrix → List (List ℕ) → Type 0
HoldsProducts p q xs ms added = (i : ℕ) → i < length xs → (s : List ℕ) → AreEndoNumbers (length ms) s
    → InSpan p q added (row_along p q ms s (get_or (entries_of xs) i []))

-- what `close` says of the prime and the width of a basis over the cover
pub closed-from : (C : CoverOf) (xs : List PrimeRow) (ms : List PrimeMatrix) (B : Echelon) (names : List Spun) (added : List (List ℕ))
    → B.prime ≡ C.answer.presentation.prime → B.width ≡ length C.sources → added ≡ B.added ++ spun_rows B.prime B.width xs ms names
    → AreNames (length xs) (length ms) names → HoldsProducts B.prime B.width xs ms added → AreClosed C xs ms B.added names added
closed-from C xs ms B names added prime width made named images = record {
  made =
      subst (λ (p : ℕ). added ≡ B.added ++ spun_rows p (length C.sources) xs ms names) prime
      (subst (λ (q : ℕ). added ≡ B.added ++ spun_rows B.prime q xs ms names) width made);
  named = named;
  images =
      subst (λ (p : ℕ). HoldsProducts p (length C.sources) xs ms added) prime
      (subst (λ (q : ℕ). HoldsProducts B.prime q xs ms added) width images);
}

module _ (L : LPresentation) (is : IsLPresentation L) (C : CoverOf) (cover : IsCover C) (offered : IsOffered C.answer.presentation.prime)
    (consistent : IsConsistent C.answer.presentation) (push : State → ℕ → State) (meaning : IsMeaning (rowed (rowed_cover C)) push)
    (named : C.answer.names ≡ L.names) (ms : List PrimeMatrix) (lifts : AreLifts C L.endos ms) (xs : List PrimeRow)
    (given : AreGivenRows L C xs)
    (o : List (List ℕ)) (rows : AreRows C.answer.presentation.prime (length C.sources) o)
    (trivial : All (IsTrivialRow C) o)
    (names : List Spun) (added : List (List ℕ)) (closed : AreClosed C xs ms o names added) where
  abbrev p : ℕ
  p = C.answer.presentation.prime

  abbrev q : ℕ
  q = length C.sources

  -- another span
  module _ (U : List (List ℕ)) (are : AreRows C.answer.presentation.prime (length C.sources) U)
      (overlaps : SpanOverlaps (rowed (rowed_cover C)) push U) where
    trivial-held : (ys : List (List ℕ)) → AreRows C.answer.presentation.prime (length C.sources) ys → All (IsTrivialRow C) ys
        → EachInSpan C.answer.presentation.prime (length C.sources) U ys
    trivial-held [] row all = tt
    trivial-held (y ∷ ys) row all = (
      trivial-spanned C cover offered consistent push meaning U are overlaps y row.0 (All-head (IsTrivialRow C) y ys all),
      trivial-held ys row.1 (All-tail (IsTrivialRow C) y ys all),
    )

    abbrev HasOne : Spun → Type 0
    HasOne s = HasSpannedRow L C push U (recorded_source (spun_relator s))

    -- the named row and the row of the span are rows of one word
    named-held : (s : Spun) → 1 ≤ s.row → s.row ≤ length xs → AreEndoNumbers (length ms) s.along → HasOne s
        → InSpan C.answer.presentation.prime (length C.sources) U (spun_row C.answer.presentation.prime (length C.sources) xs ms s)
    named-held s first last numbers one =
        let two : 2 ≤ p = cover.answer.presentation.prime in
        same-spanned C cover offered consistent push meaning U are overlaps (spun_row p q xs ms s) one.row
        (IsRow-spun_row L C cover ms lifts xs given s first last numbers)
        (IsRow-InSpan p q U one.row (omega arith) are one.span)
        (joined-trans (joined-sym (spun-row L C cover ms lifts xs given s first last numbers))
        (row_of_source-joined C cover push meaning L is named (recorded_source (spun_relator s)) one.row one.is))
        one.span

    names-held : (ss : List Spun) → AreNames (length xs) (length ms) ss → All HasOne ss
        → EachInSpan C.answer.presentation.prime (length C.sources) U (spun_rows C.answer.presentation.prime (length C.sources) xs ms ss)
    names-held [] numbers all = tt
    names-held (s ∷ ss) numbers all =
        (named-held s numbers.0 numbers.1 numbers.2 (All-head HasOne s ss all), names-held ss numbers.3 (All-tail HasOne s ss all))

    module _ (each : All HasOne names) where
      -- the whole closure
      closure-held : EachInSpan C.answer.presentation.prime (length C.sources) U added
      closure-held =
          subst (λ (ys : List (List ℕ)). EachInSpan p q U ys) (sym closed.made)
          (EachInSpan-append p q U o (spun_rows p q xs ms names) (trivial-held o rows trivial) (names-held names closed.named each))

      pub closed-relators : (r : List ℤ) → IsRelator (part L iterated_part) r → HasRowOf C U r
      closed-relators r (fixed_relator i l) = absurd (omega arith)
      closed-relators r (iterated_relator s i numbers l) =
          let two : 2 ≤ p = cover.answer.presentation.prime in
          let count = given.count in
          let product : List ℕ = row_along p q ms s (get_or (entries_of xs) i []) in
          record {
            row = product;
            span =
                InSpan-trans p q U added product (omega arith) are closure-held
                (closed.images i (omega arith) s (subst (λ (n : ℕ). AreEndoNumbers n s) (sym lifts.count) numbers));
            joined = along-row L C cover ms lifts xs given i l s numbers;
          }

  -- rows that hold one of each relator named
  pub named-suffice : SufficeIn L C push (spun_relators names)
  named-suffice U are overlaps one =
      closed-relators U are overlaps
      (All-weaker (Contains names) (HasOne U are overlaps) (λ s h. one (spun_relator s) (contained-map spun_relator names s h)) names
      (All-contains_itself names))
