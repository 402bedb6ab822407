-- The relators that a closure of the overlap rows names suffice: rows of the overlaps and of these relators span a row of each iterated
-- relator along each list of endomorphisms. The closure is made on a copy of the basis of the overlap rows.
use Rattle.std.proofs.Common.{◌≡◌, ℕ, List, ◌++◌, length, sym, ◌∙◌, subst, arith}
use Rattle.std.specs.List.{All, Contains}
use Rattle.std.proofs.lemmas.List.Elements.{All-weaker, All-contains}
use Rattle.pq_base.specs.LPresentation.{LPresentation, IsLPresentation, part}
use Rattle.pq_base.specs.LPresentation.Part.{iterated_part}
use Rattle.fp_rows.specs.Row.{PrimeRow}
use Rattle.fp_echelon.specs.Span.{EachInSpan}
use Rattle.fp_echelon.specs.Basis.{Echelon}
use Rattle.fp_echelon.specs.Matrix.{PrimeMatrix}
use Rattle.fp_echelon.proofs.SpanLaws.{InSpan-trans}
use Rattle.fp_echelon.proofs.BasisSpans.{BasisAt, basis-at}
use Rattle.pc_presentation.specs.Collection.{State}
use Rattle.pc_presentation.specs.Arithmetic.{IsMeaning}
use Rattle.p_cover.specs.RowedAnswer.{rowed}
use Rattle.p_cover.specs.Covers.{CoverOf, IsCover, rowed_cover}
use Rattle.cover_quotient.specs.OverlapRows.{SpanOverlaps}
use Rattle.cover_quotient.specs.Stages.{IsStage}
use Rattle.relator_spin.specs.declared.spun.Spun.{Spun}
use Rattle.relator_spin.specs.Closure.{spun_rows, AreNames, AreMatricesOver, IsClosed}
use Rattle.relator_spin.specs.Closure.{AreOver as AreRowsOver}
use Rattle.tower.specs.declared.relator.Relator.{Relator}
use Rattle.tower.specs.StepRows.{StepRows, AreOver}
use Rattle.tower.specs.SpunParts.{spun_relators, AreIterated, AreLifts, AreGivenRows}
use Rattle.tower.specs.Closing.{IsCopy, IsTrivialRow, SufficeIn}
use Rattle.tower.proofs.ClosedRows.{matrices-over, lifts-closed_in}
use Rattle.tower.proofs.SpunRows.{rows-over, spun-iterated}
use Rattle.tower.proofs.ClosedRelators.{HoldsProducts, closed-from, named-suffice}

-- what holds of the rows of a basis holds of those of a copy
copy-all : (P : List ℕ → Type 0) (B K : Echelon) → IsCopy B K → All P B.added → All P K.added
copy-all P B K copy all = All-weaker (Contains B.added) P (λ x h. All-contains P B.added x all h) K.added copy.members

-- what a closure gives of rows, matrices and a basis
pub record IsNamedBy (K : Echelon) (xs : List PrimeRow) (ms : List PrimeMatrix) (added : List (List ℕ)) (names : List Spun) : Type 0 where
  pub made : added ≡ K.added ++ spun_rows K.prime K.width xs ms names
  pub named : AreNames (length xs) (length ms) names
  pub images : HoldsProducts K.prime K.width xs ms added

-- by other names of the rows and the matrices
pub named-by : (K : Echelon) (ys xs : List PrimeRow) (ns ms : List PrimeMatrix) (added : List (List ℕ)) (names : List Spun) → ys ≡ xs
    → ns ≡ ms
    → added ≡ K.added ++ spun_rows K.prime K.width ys ns names → AreNames (length ys) (length ns) names
    → HoldsProducts K.prime K.width ys ns added
    → IsNamedBy K xs ms added names
named-by K ys xs ns ms added names same same' made named images =
    subst (λ (zs : List PrimeRow). IsNamedBy K zs ms added names) same
    (subst (λ (os : List PrimeMatrix). IsNamedBy K ys os added names) same' (record { made = made; named = named; images = images }))

module _ (L : LPresentation) (is : IsLPresentation L) (c : ℕ) (C : CoverOf) (cover : IsCover C) (push : State → ℕ → State)
    (meaning : IsMeaning (rowed (rowed_cover C)) push) (stage : IsStage (part L iterated_part) C.answer.presentation.prime c C.answer)
    (ms : List PrimeMatrix) (lifts : AreLifts C L.endos ms) (xs : List PrimeRow) (given : AreGivenRows L C xs)
    (O : StepRows) (over : AreOver C O) (overlaps : SpanOverlaps (rowed (rowed_cover C)) push O.basis.added)
    (trivial : All (IsTrivialRow C) O.basis.added) (B K : Echelon) (same : B ≡ O.basis) (copy : IsCopy B K) where
  abbrev p : ℕ
  p = C.answer.presentation.prime

  abbrev q : ℕ
  q = length C.sources

  copied : IsCopy O.basis K
  copied = subst (λ (E : Echelon). IsCopy E K) same copy

  prime : K.prime ≡ C.answer.presentation.prime
  prime = copied.prime ∙ over.prime

  width : K.width ≡ length C.sources
  width = copied.width ∙ over.width

  at : BasisAt C.answer.presentation.prime (length C.sources) K.added K.rows
  at = basis-at K C.answer.presentation.prime (length C.sources) prime width copied.basis

  spans : EachInSpan C.answer.presentation.prime (length C.sources) K.added O.basis.added
  spans =
      subst (λ (n : ℕ). EachInSpan n q K.added O.basis.added) over.prime
      (subst (λ (n : ℕ). EachInSpan O.basis.prime n K.added O.basis.added) over.width copied.span)

  copied-overlaps : SpanOverlaps (rowed (rowed_cover C)) push K.added
  copied-overlaps o h =
      let two = at.two in
      InSpan-trans p q K.added O.basis.added _ (omega arith) at.are spans (overlaps o h)

  copied-trivial : All (IsTrivialRow C) K.added
  copied-trivial = copy-all (IsTrivialRow C) O.basis K copied trivial

  -- the conditions of a closure
  pub closing-rows : AreRowsOver K.prime K.width xs
  closing-rows =
      subst (λ (k : ℕ). AreRowsOver k K.width xs) (sym prime)
      (subst (λ (k : ℕ). AreRowsOver C.answer.presentation.prime k xs) (sym width) (rows-over C xs given.over))

  pub closing-matrices : AreMatricesOver K.prime K.width ms
  closing-matrices =
      subst (λ (k : ℕ). AreMatricesOver k K.width ms) (sym prime)
      (subst (λ (k : ℕ). AreMatricesOver C.answer.presentation.prime k ms) (sym width) (matrices-over C ms lifts.matrices))

  pub closing-closed : IsClosed K.prime K.width ms K.added
  closing-closed =
      lifts-closed_in C cover stage.offered stage.consistent push meaning K.added at.are copied-overlaps L.endos ms lifts copied-trivial K
      prime width

  -- what it names
  module _ (added : List (List ℕ)) (names : List Spun) (closed : IsNamedBy K xs ms added names) (rs : List Relator)
      (are : rs ≡ spun_relators names) where
    pub closing-iterated : AreIterated L rs
    closing-iterated = subst (AreIterated L) (sym are) (spun-iterated L C cover ms lifts xs given names closed.named)

    pub closing-suffice : SufficeIn L C push rs
    closing-suffice =
        subst (SufficeIn L C push) (sym are)
        (named-suffice L is C cover stage.offered stage.consistent push meaning stage.names ms lifts xs given K.added at.are copied-trivial
        names added (closed-from C xs ms K names added prime width closed.made closed.named closed.images))
