-- Multiplication by a matrix is linear, and a matrix carries a span into another where it carries each of its rows there.
use Rattle.std.proofs.Common.{ℕ, ◌<◌, ◌≤◌, List, [], ◌∷◌, map, sym, ◌∙◌, subst, arith}
use Rattle.pq_base.specs.Elementary.{zeros}
use Rattle.fp_rows.specs.Rows.{scale_row}
use Rattle.fp_rows.proofs.RowLaws.{IsRow-scale_row}
use Rattle.fp_echelon.specs.Span.{combine, AreRows, InSpan, EachInSpan}
use Rattle.fp_echelon.specs.Matrix.{times_matrix, Carries}
use Rattle.fp_echelon.specs.MatrixLaws.{MatricesAreLinear, MatricesCarrySpans}
use Rattle.fp_echelon.proofs.SpanLaws.{IsRow-combine, combine-add_rows, combine-scale_row, combine-zeros, InSpan-zeros, InSpan-add_rows}
use Rattle.fp_echelon.proofs.SpanLaws.{InSpan-scale_row}

pub matrices_are_linear : MatricesAreLinear
matrices_are_linear m is =
    let two : 2 ≤ m.prime = is.prime in
    record {
      rows = λ x row. IsRow-combine m.prime m.width x m.rows (omega arith) is.rows;
      sums = λ x y row row'. combine-add_rows m.prime m.width x y m.rows (omega arith) (row.count ∙ sym row'.count);
      multiples = λ k x row. combine-scale_row m.prime m.width k x m.rows (omega arith);
    }

-- a combination of rows times a matrix
module _ (p width : ℕ) (some : 0 < p) (m others : List (List ℕ)) where
  -- where the zero row goes into the span, as it does where the matrix has rows of this width
  pub carried-combine : InSpan p width others (times_matrix p width m (zeros width)) → (cs : List ℕ) (rows : List (List ℕ))
      → AreRows p width rows → EachInSpan p width others (map (times_matrix p width m) rows)
      → InSpan p width others (times_matrix p width m (combine p width cs rows))
  carried-combine zero [] rows are each = zero
  carried-combine zero (c ∷ cs) [] are each = zero
  carried-combine zero (c ∷ cs) (r ∷ rows) are each =
      let long = IsRow-scale_row p width c r some are.0 in
      let long' = IsRow-combine p width cs rows some are.1 in
      subst (λ (l : List ℕ). InSpan p width others l)
      (sym (combine-add_rows p width (scale_row p c r) (combine p width cs rows) m some (long.count ∙ sym long'.count)))
      (InSpan-add_rows p width others (times_matrix p width m (scale_row p c r)) (times_matrix p width m (combine p width cs rows)) some
      (subst (λ (l : List ℕ). InSpan p width others l) (sym (combine-scale_row p width c r m some))
      (InSpan-scale_row p width c others (times_matrix p width m r) some each.0))
      (carried-combine zero cs rows are.1 each.1))

  pub Carries-from_rows : InSpan p width others (times_matrix p width m (zeros width)) → (rows : List (List ℕ))
      → AreRows p width rows → EachInSpan p width others (map (times_matrix p width m) rows) → Carries p width m rows others
  Carries-from_rows zero rows are each x s =
      subst (λ (l : List ℕ). InSpan p width others (times_matrix p width m l)) s.sum (carried-combine zero s.coefficients rows are each)

pub matrices_carry_spans : MatricesCarrySpans
matrices_carry_spans p width m rows others some are are' are'' each =
    Carries-from_rows p width some m others
    (subst (λ (l : List ℕ). InSpan p width others l) (sym (combine-zeros p width width m some are))
    (InSpan-zeros p width others some are''))
    rows are' each
