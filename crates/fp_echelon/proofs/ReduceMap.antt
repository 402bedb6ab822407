-- The reduction by a reduced basis is a linear map: it keeps the rows that are 0 at every pivot, sums and multiples, and a
-- row that is 0 after some column stays 0 after it.
use Rattle.std.proofs.Common.{◌≡◌, ℕ, zero, suc, ◌+◌, ◌*◌, ◌%◌, ◌-◌, ◌<◌, ◌≤◌, List, [], ◌∷◌, length, ⊎_elim, refl, ap, ap₂, sym, ◌∙◌}
use Rattle.std.proofs.Common.{subst, arith, mod-eq_of_lt, mul_comm}
use Rattle.std.proofs.Math.Nat.{mul-zero, zero-mul}
use Rattle.std.proofs.lemmas.Bool.{cases_lt}
use Rattle.pq_base.specs.Elementary.{zeros}
use Rattle.fp_rows.specs.Rows.{IsRow, add_rows, scale_row, add_scaled}
use Rattle.fp_rows.specs.Row.{at_column}
use Rattle.fp_rows.proofs.RowLaws.{IsRow-add_rows, IsRow-scale_row, add_rows_swap, scale_row-add_rows, scale_row-scale_row}
use Rattle.fp_rows.proofs.EntryLaws.{get_or-add_rows}
use Rattle.fp_rows.specs.Differences.{difference}
use Rattle.fp_echelon.specs.Span.{AreRows, InSpan}
use Rattle.fp_echelon.specs.Reduced.{BasisRow, rows_of, ZeroAtPivots, IsReduced, IsRepresentative}
use Rattle.fp_echelon.specs.Reduction.{negative, cleared, reduce_by}
use Rattle.fp_echelon.proofs.SpanLaws.{InSpan-add_rows, InSpan-scale_row}
use Rattle.fp_echelon.proofs.SpanDifferences.{InSpan-self}
use Rattle.fp_echelon.proofs.ReductionLaws.{negative-zero, AreRows-reduced, at_column-add_scaled, IsRow-cleared, IsRow-reduce_by}
use Rattle.fp_echelon.proofs.ReductionLaws.{IsRepresentative-reduce_by}
use Rattle.fp_echelon.proofs.PivotLaws.{representative_is}
use Rattle.fp_echelon.proofs.ClearedLaws.{ZeroAtPivots-scale_row}

module _ (p width : ℕ) (some : 1 < p) where
  pub reduce_by-fixed : (bs : List BasisRow) (x : List ℕ) → IsReduced p width bs → IsRow p width x → ZeroAtPivots x bs
      → reduce_by p bs x ≡ x
  reduce_by-fixed bs x reduced row none =
      sym (representative_is p width some bs x x reduced row (record {
        fits = row;
        zero = none;
        span = InSpan-self p width some (rows_of bs) (AreRows-reduced p width bs reduced) x row;
      }))

  ZeroAtPivots-add_rows : (x y : List ℕ) (bs : List BasisRow) → IsRow p width x → IsRow p width y → ZeroAtPivots x bs → ZeroAtPivots y bs
      → ZeroAtPivots (add_rows p x y) bs
  ZeroAtPivots-add_rows x y [] row row' none none' = tt
  ZeroAtPivots-add_rows x y (b ∷ bs) row row' none none' = (
    get_or-add_rows p x y (b.pivot - 1) (omega arith) (row.count ∙ sym row'.count)
        ∙ ap₂ (λ (m n : ℕ). (m + n) % p) none.0 none'.0
        ∙ mod-eq_of_lt (omega arith),
    ZeroAtPivots-add_rows x y bs row row' none.1 none'.1,
  )

  difference-add_rows_swap : (a b x y : List ℕ)
      → difference p (add_rows p a b) (add_rows p x y) ≡ add_rows p (difference p a x) (difference p b y)
  difference-add_rows_swap a b x y =
      ap (add_rows p (add_rows p a b)) (scale_row-add_rows p (p - 1) x y)
      ∙ add_rows_swap p a b (scale_row p (p - 1) x) (scale_row p (p - 1) y)

  pub reduce_by-add_rows : (bs : List BasisRow) (x y : List ℕ) → IsReduced p width bs → IsRow p width x → IsRow p width y
      → reduce_by p bs (add_rows p x y) ≡ add_rows p (reduce_by p bs x) (reduce_by p bs y)
  reduce_by-add_rows bs x y reduced row row' =
      let r = IsRepresentative-reduce_by p width some bs x reduced row in
      let s = IsRepresentative-reduce_by p width some bs y reduced row' in
      sym (representative_is p width some bs (add_rows p x y) (add_rows p (reduce_by p bs x) (reduce_by p bs y)) reduced
      (IsRow-add_rows p width x y (omega arith) row row')
      (record {
        fits = IsRow-add_rows p width (reduce_by p bs x) (reduce_by p bs y) (omega arith) r.fits s.fits;
        zero = ZeroAtPivots-add_rows (reduce_by p bs x) (reduce_by p bs y) bs r.fits s.fits r.zero s.zero;
        span = subst (λ (l : List ℕ). InSpan p width (rows_of bs) l)
            (sym (difference-add_rows_swap (reduce_by p bs x) (reduce_by p bs y) x y))
            (InSpan-add_rows p width (rows_of bs) (difference p (reduce_by p bs x) x) (difference p (reduce_by p bs y) y)
            (omega arith) r.span s.span);
      }))

  difference-scale_row : (k : ℕ) (a x : List ℕ) → difference p (scale_row p k a) (scale_row p k x) ≡ scale_row p k (difference p a x)
  difference-scale_row k a x =
      ap (add_rows p (scale_row p k a))
      (scale_row-scale_row p (p - 1) k x ∙ ap (λ (n : ℕ). scale_row p n x) (mul_comm (p - 1) k) ∙ sym (scale_row-scale_row p k (p - 1) x))
      ∙ sym (scale_row-add_rows p k a (scale_row p (p - 1) x))

  pub reduce_by-scale_row : (bs : List BasisRow) (k : ℕ) (x : List ℕ) → IsReduced p width bs → IsRow p width x
      → reduce_by p bs (scale_row p k x) ≡ scale_row p k (reduce_by p bs x)
  reduce_by-scale_row bs k x reduced row =
      let r = IsRepresentative-reduce_by p width some bs x reduced row in
      sym (representative_is p width some bs (scale_row p k x) (scale_row p k (reduce_by p bs x)) reduced
      (IsRow-scale_row p width k x (omega arith) row)
      (record {
        fits = IsRow-scale_row p width k (reduce_by p bs x) (omega arith) r.fits;
        zero = ZeroAtPivots-scale_row p width some k (reduce_by p bs x) bs r.zero;
        span = subst (λ (l : List ℕ). InSpan p width (rows_of bs) l) (sym (difference-scale_row k (reduce_by p bs x) x))
            (InSpan-scale_row p width k (rows_of bs) (difference p (reduce_by p bs x) x) (omega arith) r.span);
      }))

  -- so the reduction of a unit row has no entry after its place
  pub reduce_by-zero_after : (bs : List BasisRow) (x : List ℕ) (t : ℕ) → IsReduced p width bs → IsRow p width x
      → ((d : ℕ) → t < d → at_column x d ≡ 0) → (d : ℕ) → t < d → at_column (reduce_by p bs x) d ≡ 0
  reduce_by-zero_after [] x t reduced row none d after = none d after
  reduce_by-zero_after (b ∷ bs) x t reduced row none d after =
      let row' = IsRow-cleared p width some b.row x reduced.0.fits row b.pivot in
      let k : ℕ = negative p (at_column x b.pivot) in
      let product : (e : ℕ) → t < e → k * at_column b.row e ≡ 0 =
      λ e l. ⊎_elim
      (λ later. ap (λ (n : ℕ). negative p n * at_column b.row e) (none b.pivot later)
      ∙ ap (λ (n : ℕ). n * at_column b.row e) (negative-zero p) ∙ zero-mul (at_column b.row e))
      (λ before. ap (λ (n : ℕ). k * n) (reduced.0.last.zero_after e (omega arith)) ∙ mul-zero k) (cases_lt t b.pivot) in
      reduce_by-zero_after bs (cleared p b.pivot b.row x) t reduced.2 row'
      (λ e l.
      at_column-add_scaled p k x b.row e (omega arith) (row.count ∙ sym reduced.0.fits.count)
      ∙ ap₂ (λ (m n : ℕ). (m + n) % p) (none e l) (product e l)
      ∙ mod-eq_of_lt (omega arith))
      d after
