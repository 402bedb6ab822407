-- In a cover of a consistent answer a span that holds the overlap rows holds each trivial row, and with a row each other row whose word
-- is joined to its word. So the matrices of endomorphisms carry a span of trivial rows that holds the overlap rows into itself.
use Rattle.std.proofs.Common.{◌≡◌, ℕ, zero, suc, ◌-◌, ◌<◌, ◌≤◌, ℤ, List, [], ◌∷◌, length, ap, sym, subst, arith}
use Rattle.std.specs.List.{All}
use Rattle.std.proofs.lemmas.List.Elements.{All-head, All-tail}
use Rattle.pq_base.specs.SignedWord.{inv}
use Rattle.pq_base.specs.Presentation.{word_from}
use Rattle.pq_base.specs.Joined.{Joined, IsConsistent}
use Rattle.pq_base.specs.Prime.{IsOffered}
use Rattle.pq_base.proofs.PrimeLaws.{offered-two}
use Rattle.pq_base.proofs.words.JoinedLaws.{joined-from_equal, joined-sym, joined-trans, joined-append, append-inv-joined}
use Rattle.fp_rows.specs.Rows.{IsRow, scale_row}
use Rattle.fp_rows.specs.Differences.{difference}
use Rattle.fp_rows.proofs.RowLaws.{IsRow-add_scaled, IsRow-scale_row, scale_row-negative}
use Rattle.fp_echelon.specs.Span.{AreRows, InSpan}
use Rattle.fp_echelon.specs.Basis.{Echelon}
use Rattle.fp_echelon.specs.Matrix.{PrimeMatrix, times_matrix}
use Rattle.fp_echelon.proofs.SpanLaws.{IsRow-combine, IsRow-InSpan}
use Rattle.fp_echelon.proofs.SpanDifferences.{InSpan-shifted}
use Rattle.pc_presentation.specs.Rowed.{RowedPresentation, IsRowed, flat}
use Rattle.pc_presentation.specs.Collection.{State}
use Rattle.pc_presentation.specs.Arithmetic.{IsMeaning}
use Rattle.pc_presentation.proofs.rows.RowsCentral.{row_word-inverse}
use Rattle.p_cover.specs.RowedAnswer.{rowed, tails_word}
use Rattle.p_cover.specs.Covers.{CoverOf, IsCover, rowed_cover}
use Rattle.cover_quotient.specs.OverlapRows.{SpanOverlaps}
use Rattle.cover_quotient.proofs.carried_rows.CarriedRows.{normal_from_row}
use Rattle.cover_quotient.proofs.carried_rows.RowWords.{row_words-sum, span-trivial}
use Rattle.cover_quotient.proofs.kept_tails.CoverUnits.{cover-units}
use Rattle.cover_quotient.proofs.spans.TrivialRows.{trivial_rows_are_in_the_span}
use Rattle.endo_lift.specs.Lifts.{HasRow, IsMatrixOver}
use Rattle.relator_spin.specs.Closure.{AreMatricesOver, matrix_at, IsClosed}
use Rattle.tower.specs.SpunParts.{AreLifts}

-- the rows of each matrix are rows over the cover
pub matrix-rows : (C : CoverOf) (ms : List PrimeMatrix) → All (IsMatrixOver C) ms → (e : ℕ) → e < length ms
    → AreRows C.answer.presentation.prime (length C.sources) (matrix_at ms (suc e))
matrix-rows C (m ∷ ms) all zero l =
    let at = All-head (IsMatrixOver C) m ms all in
    subst (λ (k : ℕ). AreRows k (length C.sources) m.rows) at.prime
    (subst (λ (k : ℕ). AreRows m.prime k m.rows) at.width at.matrix.rows)
matrix-rows C (m ∷ ms) all (suc e) l = matrix-rows C ms (All-tail (IsMatrixOver C) m ms all) e (omega arith)
matrix-rows C [] all e l = absurd (omega arith)

pub matrices-over : (C : CoverOf) (ms : List PrimeMatrix) → All (IsMatrixOver C) ms
    → AreMatricesOver C.answer.presentation.prime (length C.sources) ms
matrices-over C [] all = tt
matrices-over C (m ∷ ms) all =
    let at = All-head (IsMatrixOver C) m ms all in
    (at.prime, at.width, matrices-over C ms (All-tail (IsMatrixOver C) m ms all))

module _ (C : CoverOf) (cover : IsCover C) (offered : IsOffered C.answer.presentation.prime)
    (consistent : IsConsistent C.answer.presentation)
    (push : State → ℕ → State) (meaning : IsMeaning (rowed (rowed_cover C)) push) where
  abbrev p : ℕ
  p = C.answer.presentation.prime

  abbrev q : ℕ
  q = length C.sources

  abbrev Y : RowedPresentation
  Y = rowed (rowed_cover C)

  is : IsRowed (rowed (rowed_cover C))
  is = (cover-units C cover cover.answer.presentation.prime).rowed.presentation

  module _ (o : List (List ℕ)) (are : AreRows C.answer.presentation.prime (length C.sources) o)
      (overlaps : SpanOverlaps (rowed (rowed_cover C)) push o) where
    -- a row whose word is joined to the empty word
    pub trivial-spanned : (x : List ℕ) → IsRow C.answer.presentation.prime (length C.sources) x
        → Joined (flat (rowed (rowed_cover C))) (tails_word (rowed_cover C) x) []
        → InSpan C.answer.presentation.prime (length C.sources) o x
    trivial-spanned x row trivial =
        trivial_rows_are_in_the_span Y push o is offered meaning consistent are overlaps x (normal_from_row p q x row) trivial

    -- or to the word of a row of the span
    pub same-spanned : (x y : List ℕ) → IsRow C.answer.presentation.prime (length C.sources) x
        → IsRow C.answer.presentation.prime (length C.sources) y
        → Joined (flat (rowed (rowed_cover C))) (tails_word (rowed_cover C) x) (tails_word (rowed_cover C) y)
        → InSpan C.answer.presentation.prime (length C.sources) o y → InSpan C.answer.presentation.prime (length C.sources) o x
    same-spanned x y row row' same held =
        let big : 1 < p = offered-two p offered in
        let n : ℕ = C.answer.presentation.rank in
        let minus : IsRow p q (scale_row p (p - 1) y) = IsRow-scale_row p q (p - 1) y (omega arith) row' in
        let negative : Joined (flat Y) (word_from n (scale_row p (p - 1) y)) (inv (word_from n y)) =
        joined-trans (joined-from_equal (flat Y) (ap (word_from n) (scale_row-negative p y row'.below)))
        (joined-sym (row_word-inverse Y is (omega arith) y (normal_from_row p q y row'))) in
        let nothing : Joined (flat Y) (word_from n (difference p x y)) [] =
        joined-trans (joined-sym (row_words-sum Y is (omega arith) x (scale_row p (p - 1) y) row minus))
        (joined-trans (joined-append same negative) (append-inv-joined (flat Y) (word_from n y))) in
        InSpan-shifted p q big o are x y row row'
        (trivial-spanned (difference p x y) (IsRow-add_scaled p q (p - 1) x y (omega arith) row row') nothing) held

    -- so the matrices carry trivial rows into the span
    pub lifts-closed : (endos : List (List (List ℤ))) (ms : List PrimeMatrix) → AreLifts C endos ms
        → All (λ (x : List ℕ). Joined (flat (rowed (rowed_cover C))) (tails_word (rowed_cover C) x) []) o
        → IsClosed C.answer.presentation.prime (length C.sources) ms o
    lifts-closed endos ms lifts trivial e l x held =
        let two : 2 ≤ p = cover.answer.presentation.prime in
        let m : List (List ℕ) = matrix_at ms (suc e) in
        let nothing : Joined (flat Y) (tails_word (rowed_cover C) x) [] = span-trivial Y is (omega arith) o are trivial x held in
        let carried : HasRow C [] (times_matrix p q m x) =
        lifts.carry e l [] x (IsRow-InSpan p q o x (omega arith) are held) (joined-sym nothing) in
        trivial-spanned (times_matrix p q m x) (IsRow-combine p q x m (omega arith) (matrix-rows C ms lifts.matrices e l))
        (joined-sym carried)

    -- at the prime and the width of a basis
    pub lifts-closed_in : (endos : List (List (List ℤ))) (ms : List PrimeMatrix) → AreLifts C endos ms
        → All (λ (x : List ℕ). Joined (flat (rowed (rowed_cover C))) (tails_word (rowed_cover C) x) []) o
        → (B : Echelon) → B.prime ≡ C.answer.presentation.prime → B.width ≡ length C.sources → IsClosed B.prime B.width ms o
    lifts-closed_in endos ms lifts trivial B prime width =
        subst (λ (k : ℕ). IsClosed k B.width ms o) (sym prime)
        (subst (λ (k : ℕ). IsClosed C.answer.presentation.prime k ms o) (sym width) (lifts-closed endos ms lifts trivial))
