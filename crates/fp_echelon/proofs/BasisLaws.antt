-- A basis spans exactly what the added rows span. After an insertion it is a basis of one row more, and a row can be added
-- exactly where it is not in the span.
use Rattle.std.proofs.Common.{◌≡◌, ◌≢◌, ◌↔◌, ℕ, suc, ◌+◌, ◌*◌, ◌%◌, ◌<◌, ◌≤◌, List, [], ◌∷◌, ◌++◌, length, refl, ap, sym, ◌∙◌, subst, arith}
use Rattle.std.proofs.Common.{length-append}
use Rattle.fp_rows.specs.Rows.{IsRow}
use Rattle.fp_rows.specs.Row.{at_column, IsLastNonzero}
use Rattle.fp_rows.proofs.EntryLaws.{at_column-zeros}
use Rattle.pq_base.specs.Elementary.{zeros}
use Rattle.fp_echelon.specs.Span.{AreRows, InSpan, EachInSpan}
use Rattle.fp_echelon.specs.Reduced.{BasisRow, rows_of, IsPivot, IsReduced, IsRepresentative}
use Rattle.fp_echelon.specs.Reduction.{reduce_by}
use Rattle.fp_echelon.proofs.InsertionSteps.{inserted}
use Rattle.fp_echelon.specs.Basis.{Echelon, IsSum, AreSums, IsBasis}
use Rattle.fp_echelon.proofs.SpanLaws.{AreRows-push, InSpan-trans}
use Rattle.fp_echelon.proofs.ReductionLaws.{AreRows-reduced, IsRepresentative-reduce_by}
use Rattle.fp_echelon.proofs.PivotLaws.{representative-zero, InSpan-from_representative}
use Rattle.fp_echelon.proofs.SumLaws.{AreSums-inserted}
use Rattle.fp_echelon.proofs.InsertionLaws.{length-inserted, IsReduced-inserted, EachInSpan-inserted}

-- sums of the added rows are in their span
EachInSpan-sums : (p width : ℕ) (added : List (List ℕ)) (bs : List BasisRow) → AreSums p width added bs
    → EachInSpan p width added (rows_of bs)
EachInSpan-sums p width added [] sums = tt
EachInSpan-sums p width added (b ∷ bs) sums =
    let s = sums.0 in
    (record { coefficients = b.coefficients; fits = s.fits; sum = s.sum }, EachInSpan-sums p width added bs sums.1)

module _ (B : Echelon) (basis : IsBasis B) where
  pub basis_spans : (x : List ℕ) → InSpan B.prime B.width B.added x ↔ InSpan B.prime B.width (rows_of B.rows) x
  basis_spans x =
      let two = basis.prime in (
        λ s. InSpan-trans B.prime B.width (rows_of B.rows) B.added x (omega arith)
            (AreRows-reduced B.prime B.width B.rows basis.reduced) basis.spanned s,
        λ s. InSpan-trans B.prime B.width B.added (rows_of B.rows) x (omega arith) basis.added
            (EachInSpan-sums B.prime B.width B.added B.rows basis.sums) s,
      )

  module _ (x : List ℕ) (row : IsRow B.prime B.width x) where
    reduced_representative : IsRepresentative B.prime B.width B.rows x (reduce_by B.prime B.rows x)
    reduced_representative =
        let two = basis.prime in IsRepresentative-reduce_by B.prime B.width (omega arith) B.rows x basis.reduced row

    -- dependent rows reduce to zero
    pub dependent_from_zero : reduce_by B.prime B.rows x ≡ zeros B.width → InSpan B.prime B.width B.added x
    dependent_from_zero e =
        let two = basis.prime in
        (basis_spans x).1
        (InSpan-from_representative B.prime B.width (omega arith) B.rows x
        (reduce_by B.prime B.rows x) basis.reduced row reduced_representative e)

    -- and others do not
    pub independent_from_nonzero : (c : ℕ) → IsLastNonzero (reduce_by B.prime B.rows x) c → InSpan B.prime B.width B.added x → ⊥
    independent_from_nonzero c last s =
        let two = basis.prime in
        last.nonzero
        (ap (λ (l : List ℕ). at_column l c)
        (representative-zero B.prime B.width (omega arith) B.rows x (reduce_by B.prime B.rows x) basis.reduced row reduced_representative
        ((basis_spans x).0 s))
        ∙ at_column-zeros B.width c)

    pub IsBasis-inserted : (c k spare : ℕ) → IsLastNonzero (reduce_by B.prime B.rows x) c
        → (at_column (reduce_by B.prime B.rows x) c * k) % B.prime ≡ 1
        → IsBasis (record {
          prime = B.prime;
          width = B.width;
          added = B.added ++ x ∷ [];
          rows = inserted B.prime c k x (length B.added) B.rows;
          spare = spare;
        })
    IsBasis-inserted c k spare last one =
        let two = basis.prime in
        let more = AreRows-push B.prime B.width B.added x basis.added row in
        let count = basis.count in
        record {
          prime = two;
          added = more;
          count = omega (
            arith,
            length-inserted B.prime c k x (length B.added) B.rows,
            length-append B.added (x ∷ []),
          );
          reduced = IsReduced-inserted B.prime B.width (omega arith) B.rows x (length B.added) c k basis.reduced row last one;
          sums = AreSums-inserted B.prime B.width (omega arith) B.added x basis.added more row c k B.rows basis.sums;
          spanned =
              EachInSpan-inserted B.prime B.width (omega arith) B.rows x (length B.added) c k basis.reduced row last one B.added
              basis.spanned;
        }
