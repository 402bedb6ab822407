-- The laws of spans and reduced bases, as the functions of `laws` state them.
use Rattle.std.proofs.Common.{◌≡◌, ◌↔◌, ℕ, List, length, ap, sym, ◌∙◌, subst}
use Rattle.pq_base.specs.Elementary.{zeros}
use Rattle.fp_rows.specs.Rows.{IsRow}
use Rattle.fp_rows.specs.Row.{IsZeroRow}
use Rattle.fp_rows.proofs.EntryLaws.{IsZeroRow-is_zeros, zeros-IsZeroRow}
use Rattle.fp_echelon.specs.Laws.{RepresentativesAreUnique, RowsOfTheSpanReduceToZero, ReducedBasesOfOneSpanAreEqual}
use Rattle.fp_echelon.specs.Laws.{EverySpanHasAReducedBasis}
use Rattle.fp_echelon.proofs.PivotLaws.{IsRepresentative-unique, InSpan-from_representative, representative-zero}
use Rattle.fp_echelon.proofs.UniqueBasis.{same_rows}
use Rattle.fp_echelon.proofs.EveryBasis.{reduced_basis_of}

pub representatives_are_unique : RepresentativesAreUnique
representatives_are_unique p width bs x y z some reduced row r s = IsRepresentative-unique p width some bs x y z reduced row r s

pub rows_of_the_span_reduce_to_zero : RowsOfTheSpanReduceToZero
rows_of_the_span_reduce_to_zero p width bs x y some reduced row r = (
  λ s. subst IsZeroRow (sym (representative-zero p width some bs x y reduced row r s)) (zeros-IsZeroRow width),
  λ none. InSpan-from_representative p width some bs x y reduced row r (IsZeroRow-is_zeros y none ∙ ap zeros r.fits.count),
)

pub reduced_bases_of_one_span_are_equal : ReducedBasesOfOneSpanAreEqual
reduced_bases_of_one_span_are_equal p width bs cs some reduced reduced' same = same_rows p width some bs cs reduced reduced' same

pub every_span_has_a_reduced_basis : EverySpanHasAReducedBasis
every_span_has_a_reduced_basis p width rows some inverses are = reduced_basis_of p width some inverses rows are
