-- Every list of rows has a reduced basis of its span: its rows are inserted one by one.
use Rattle.std.proofs.Common.{◌≡◌, ◌≢◌, ◌↔◌, ◌⊎◌, ℕ, zero, suc, ◌+◌, ◌*◌, ◌%◌, ◌-◌, ◌<◌, ◌≤◌, List, [], ◌∷◌, ◌++◌, length, inl, inr, ⊎_elim}
use Rattle.std.proofs.Common.{refl, ap, sym, ◌∙◌, subst, arith, get_or}
use Rattle.std.proofs.Math.Nat.{pos_of_ne-zero}
use Rattle.std.proofs.lemmas.Bool.{cases_eq}
use Rattle.pq_base.specs.Elementary.{zeros}
use Rattle.fp_rows.specs.Rows.{IsRow}
use Rattle.fp_rows.specs.Row.{at_column, IsColumn, IsZeroRow, IsLastNonzero}
use Rattle.fp_rows.proofs.EntryLaws.{IsZeroRow-is_zeros, at_column-zeros, at_column-below}
use Rattle.fp_echelon.specs.Span.{AreRows, InSpan, EachInSpan}
use Rattle.fp_echelon.specs.Reduced.{BasisRow, rows_of, IsReduced}
use Rattle.fp_echelon.specs.Reduction.{reduce_by}
use Rattle.fp_echelon.proofs.InsertionSteps.{inserted}
use Rattle.fp_echelon.specs.Basis.{Echelon, IsBasis}
use Rattle.fp_echelon.specs.Laws.{HasInverses, SpanTheSame, ReducedBasisOf}
use Rattle.fp_echelon.proofs.SpanLaws.{InSpan-head, InSpan-trans, EachInSpan-cons, EachInSpan-trans, EachInSpan-push}
use Rattle.fp_echelon.proofs.ReductionLaws.{AreRows-reduced, IsRow-reduce_by}
use Rattle.fp_echelon.proofs.InsertionLaws.{old_in_span, inserted_in_span}
use Rattle.fp_echelon.proofs.BasisLaws.{basis_spans, dependent_from_zero, IsBasis-inserted}

-- the columns of a row after its first
at_column-cons : (x : ℕ) (xs : List ℕ) (c : ℕ) → 1 ≤ c → at_column (x ∷ xs) (suc c) ≡ at_column xs c
at_column-cons x xs zero h = absurd (omega arith)
at_column-cons x xs (suc c) h =
    let there : suc (suc c) - 1 ≡ suc c = omega arith in
    let here : suc c - 1 ≡ c = omega arith in
    ap (λ (i : ℕ). get_or (x ∷ xs) i 0) there ∙ ap (λ (i : ℕ). get_or xs i 0) (sym here)

IsZeroRow-column : (xs : List ℕ) (c : ℕ) → IsZeroRow xs → at_column xs c ≡ 0
IsZeroRow-column xs c none = ap (λ (l : List ℕ). at_column l c) (IsZeroRow-is_zeros xs none) ∙ at_column-zeros (length xs) c

-- a row is zero, or has a last nonzero column
pub zero_or_last : (xs : List ℕ) → IsZeroRow xs ⊎ ((c : ℕ) × IsLastNonzero xs c)
zero_or_last [] = inl tt
zero_or_last (x ∷ xs) =
    ⊎_elim
    (λ none. ⊎_elim (λ e. inl (e, none))
    (λ ne. inr (
      1,
      record {
        column = record { first = omega arith; last = omega arith };
        nonzero = ne;
        zero_after = λ d after.
            let same : suc (d - 1) ≡ d = omega arith in
            ap (at_column (x ∷ xs)) (sym same) ∙ at_column-cons x xs (d - 1) (omega arith) ∙ IsZeroRow-column xs (d - 1) none;
      },
    )) (cases_eq x 0))
    (λ last.
    let column = last.1.column in
    let least = column.first in
    let most = column.last in
    inr (
      suc last.0,
      record {
        column = record { first = omega arith; last = omega arith };
        nonzero = λ e. last.1.nonzero (sym (at_column-cons x xs last.0 least) ∙ e);
        zero_after = λ d after.
            let same : suc (d - 1) ≡ d = omega arith in
            ap (at_column (x ∷ xs)) (sym same) ∙ at_column-cons x xs (d - 1) (omega arith) ∙ last.1.zero_after (d - 1) (omega arith);
      },
    ))
    (zero_or_last xs)

-- a basis of the span of some rows, made of some of them
record Made (p width : ℕ) (rows : List (List ℕ)) : Type 0 where
  added : List (List ℕ)
  made : List BasisRow
  basis : IsBasis (record { prime = p; width = width; added = added; rows = made; spare = 0 })
  within : EachInSpan p width rows added
  whole : EachInSpan p width (rows_of made) rows

module _ (p width : ℕ) (some : 2 ≤ p) (inverses : HasInverses p) where
  made_of : (rows : List (List ℕ)) → AreRows p width rows → Made p width rows
  made_of [] are = record {
    added = [];
    made = [];
    basis = record { prime = some; added = tt; count = refl; reduced = tt; sums = tt; spanned = tt };
    within = tt;
    whole = tt;
  }
  made_of (x ∷ rows) are =
      let M = made_of rows are.1 in
      let B : Echelon = record { prime = p; width = width; added = M.added; rows = M.made; spare = 0 } in
      let reduced = M.basis.reduced in
      let own = AreRows-reduced p width M.made reduced in
      let y_row = IsRow-reduce_by p width some M.made x own are.0 in
      let more = EachInSpan-cons p width x rows M.added (omega arith) are.0 are.1 M.within in
      ⊎_elim
      (λ none.
      let same = IsZeroRow-is_zeros (reduce_by p M.made x) none ∙ ap zeros y_row.count in
      record {
        added = M.added;
        made = M.made;
        basis = M.basis;
        within = more;
        whole = ((basis_spans B M.basis x).0 (dependent_from_zero B M.basis x are.0 same), M.whole);
      })
      (λ last.
      let c : ℕ = last.0 in
      let y : ℕ = at_column (reduce_by p M.made x) c in
      let low = at_column-below p (reduce_by p M.made x) c (omega arith) y_row.below in
      let k = inverses y (pos_of_ne-zero last.1.nonzero) low in
      let after : List BasisRow = inserted p c k.0 x (length M.added) M.made in
      let basis = IsBasis-inserted B M.basis x are.0 c k.0 0 last.1 k.1 in
      let are_after = AreRows-reduced p width after basis.reduced in
      record {
        added = M.added ++ x ∷ [];
        made = after;
        basis = basis;
        within = EachInSpan-push p width (x ∷ rows) M.added x more (InSpan-head p width x rows some are.0 are.1);
        whole = (
          inserted_in_span p width some M.made x (length M.added) c k.0 reduced are.0 last.1 k.1,
          EachInSpan-trans p width (rows_of after) (rows_of M.made) rows (omega arith) are_after
              (old_in_span p width some M.made x (length M.added) c k.0 reduced are.0 last.1 k.1) M.whole,
        );
      })
      (zero_or_last (reduce_by p M.made x))

  pub reduced_basis_of : (rows : List (List ℕ)) → AreRows p width rows → ReducedBasisOf p width rows
  reduced_basis_of rows are =
      let M = made_of rows are in
      let B : Echelon = record { prime = p; width = width; added = M.added; rows = M.made; spare = 0 } in
      record {
        basis = M.made;
        reduced = M.basis.reduced;
        spans = λ x. (
          λ s. InSpan-trans p width (rows_of M.made) rows x (omega arith) (AreRows-reduced p width M.made M.basis.reduced) M.whole s,
          λ s. InSpan-trans p width rows M.added x (omega arith) are M.within ((basis_spans B M.basis x).1 s),
        );
      }
