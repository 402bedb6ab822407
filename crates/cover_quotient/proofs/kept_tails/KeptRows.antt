-- A row is carried along the kept rows of a reduced basis to the kept entries of its representative. So it is carried to
-- zero exactly where it is in the span of the basis.
use Rattle.std.proofs.Common.{◌≡◌, ◌↔◌, ℕ, suc, ◌-◌, ◌<◌, List, [], ◌∷◌, length, map, get_or, ⊎_elim, refl, ap, ap₂, sym, ◌∙◌, subst, arith}
use Rattle.std.specs.List.{Contains}
use Rattle.std.proofs.lemmas.List.{length-map, get_or-map}
use Rattle.pq_base.specs.Elementary.{zeros}
use Rattle.pq_base.specs.Table.{AllBelow}
use Rattle.pq_base.specs.Canonical.{numbers_from}
use Rattle.fp_rows.specs.Rows.{IsRow, add_rows, scale_row}
use Rattle.fp_rows.specs.Row.{at_column}
use Rattle.pq_base.proofs.UnitLaws.{get_or-zeros}
use Rattle.fp_rows.proofs.EntryLaws.{get_or-add_rows, get_or-scale_row, at_column-zeros, at_column-below, IsZeroRow-is_zeros}
use Rattle.fp_rows.proofs.EntryLaws.{IsZeroRow-from_entries}
use Rattle.fp_rows.proofs.RowLaws.{IsRow-zeros}
use Rattle.fp_echelon.specs.Span.{combine, AreRows, InSpan}
use Rattle.fp_echelon.specs.Reduced.{BasisRow, rows_of, IsReduced}
use Rattle.fp_echelon.specs.Reduction.{reduce_by}
use Rattle.fp_echelon.proofs.SpanLaws.{InSpan-zeros}
use Rattle.fp_echelon.proofs.ReductionLaws.{AreRows-reduced, IsRow-reduce_by, IsRepresentative-reduce_by}
use Rattle.fp_echelon.proofs.PivotLaws.{InSpan-from_representative, representative-zero}
use Rattle.fp_echelon.proofs.UniqueBasis.{pivot_or_not, ZeroAtPivots-at}
use Rattle.fp_echelon.proofs.ReduceMap.{reduce_by-add_rows, reduce_by-scale_row}
use Rattle.pc_presentation.specs.Pcp.{unit_row}
use Rattle.cover_quotient.specs.Carried.{carried}
use Rattle.cover_quotient.specs.Kept.{kept_columns, entries_at, kept_rows}
use Rattle.cover_quotient.proofs.carried_rows.CarriedRows.{IsLinear, combine-linear}
use Rattle.cover_quotient.proofs.carried_rows.UnitRows.{unit_rows, AreRows-unit_rows, combine-unit_rows}
use Rattle.pq_base.proofs.NumberLists.{length-numbers_from}
use Rattle.cover_quotient.proofs.kept_tails.KeptColumns.{contains_kept}

-- the entries at some columns
pub length-entries_at : (cs x : List ℕ) → length (entries_at cs x) ≡ length cs
length-entries_at cs x = length-map cs (at_column x)

entries_at-below : (p : ℕ) (cs x : List ℕ) → 0 < p → AllBelow p x → AllBelow p (entries_at cs x)
entries_at-below p [] x h below = tt
entries_at-below p (c ∷ cs) x h below = (at_column-below p x c h below, entries_at-below p cs x h below)

pub IsRow-entries_at : (p width : ℕ) (cs x : List ℕ) → 0 < p → IsRow p width x → IsRow p (length cs) (entries_at cs x)
IsRow-entries_at p width cs x h row = record { count = length-entries_at cs x; below = entries_at-below p cs x h row.below }

entries_at-add_rows : (p : ℕ) (cs x y : List ℕ) → 0 < p → length x ≡ length y
    → entries_at cs (add_rows p x y) ≡ add_rows p (entries_at cs x) (entries_at cs y)
entries_at-add_rows p [] x y h e = refl
entries_at-add_rows p (c ∷ cs) x y h e =
    ap₂ (λ (n : ℕ) (l : List ℕ). n ∷ l) (get_or-add_rows p x y (c - 1) h e) (entries_at-add_rows p cs x y h e)

entries_at-scale_row : (p k : ℕ) (cs x : List ℕ) → 0 < p → entries_at cs (scale_row p k x) ≡ scale_row p k (entries_at cs x)
entries_at-scale_row p k [] x h = refl
entries_at-scale_row p k (c ∷ cs) x h =
    ap₂ (λ (n : ℕ) (l : List ℕ). n ∷ l) (get_or-scale_row p k x (c - 1) h) (entries_at-scale_row p k cs x h)

pub entries_at-zeros : (cs : List ℕ) (n : ℕ) → entries_at cs (zeros n) ≡ zeros (length cs)
entries_at-zeros [] n = refl
entries_at-zeros (c ∷ cs) n = ap₂ (λ (m : ℕ) (l : List ℕ). m ∷ l) (at_column-zeros n c) (entries_at-zeros cs n)

-- where they are zero, so is each
entry-zero : (cs x : List ℕ) (c : ℕ) → entries_at cs x ≡ zeros (length cs) → Contains cs c → at_column x c ≡ 0
entry-zero cs x c e h =
    let k : ℕ = h.0 in
    let entry : get_or (entries_at cs x) k 0 ≡ at_column x (get_or cs k c) = get_or-map (at_column x) cs k c 0 h.1 in
    ap (at_column x) (sym h.2) ∙ sym entry ∙ ap (λ (l : List ℕ). get_or l k 0) e ∙ get_or-zeros (length cs) k

map-unit_rows : (f : List ℕ → List ℕ) (n : ℕ) (ts : List ℕ) → map (λ (t : ℕ). f (unit_row n t)) ts ≡ map f (map (unit_row n) ts)
map-unit_rows f n [] = refl
map-unit_rows f n (t ∷ ts) = ap (λ (rows : List (List ℕ)). f (unit_row n t) ∷ rows) (map-unit_rows f n ts)

AreRows-map : (p from to : ℕ) (f : List ℕ → List ℕ) (rows : List (List ℕ)) → ((x : List ℕ) → IsRow p from x → IsRow p to (f x))
    → AreRows p from rows → AreRows p to (map f rows)
AreRows-map p from to f [] keeps are = tt
AreRows-map p from to f (r ∷ rows) keeps are = (keeps r are.0, AreRows-map p from to f rows keeps are.1)

pub length-kept_rows : (p width : ℕ) (bs : List BasisRow) → length (kept_rows p width bs) ≡ width
length-kept_rows p width bs =
    length-map (numbers_from 1 width) (λ (t : ℕ). entries_at (kept_columns width bs) (reduce_by p bs (unit_row width t)))
    ∙ length-numbers_from 1 width

module _ (p width : ℕ) (some : 1 < p) (bs : List BasisRow) (reduced : IsReduced p width bs) where
  -- the kept entries of the representative
  abbrev pub kept_entries : List ℕ → List ℕ
  kept_entries x = entries_at (kept_columns width bs) (reduce_by p bs x)

  reduced-row : (x : List ℕ) → IsRow p width x → IsRow p width (reduce_by p bs x)
  reduced-row x row = IsRow-reduce_by p width some bs x (AreRows-reduced p width bs reduced) row

  pub kept_entries-row : (x : List ℕ) → IsRow p width x → IsRow p (length (kept_columns width bs)) (kept_entries x)
  kept_entries-row x row = IsRow-entries_at p width (kept_columns width bs) (reduce_by p bs x) (omega arith) (reduced-row x row)

  representative_of_zeros : reduce_by p bs (zeros width) ≡ zeros width
  representative_of_zeros =
      let row = IsRow-zeros p width (omega arith) in
      representative-zero p width some bs (zeros width) (reduce_by p bs (zeros width)) reduced row
      (IsRepresentative-reduce_by p width some bs (zeros width) reduced row)
      (InSpan-zeros p width (rows_of bs) (omega arith) (AreRows-reduced p width bs reduced))

  pub kept_entries-linear : IsLinear p width (length (kept_columns width bs)) kept_entries
  kept_entries-linear = record {
    nothing = ap (entries_at (kept_columns width bs)) representative_of_zeros ∙ entries_at-zeros (kept_columns width bs) width;
    sums = λ x y row row'.
        ap (entries_at (kept_columns width bs)) (reduce_by-add_rows p width some bs x y reduced row row')
        ∙ entries_at-add_rows p (kept_columns width bs) (reduce_by p bs x) (reduce_by p bs y) (omega arith)
        ((reduced-row x row).count ∙ sym (reduced-row y row').count);
    multiples = λ k x row.
        ap (entries_at (kept_columns width bs)) (reduce_by-scale_row p width some bs k x reduced row)
        ∙ entries_at-scale_row p k (kept_columns width bs) (reduce_by p bs x) (omega arith);
  }

  rows-mapped : kept_rows p width bs ≡ map kept_entries (unit_rows width)
  rows-mapped = map-unit_rows kept_entries width (numbers_from 1 width)

  pub kept_rows-are_rows : AreRows p (length (kept_columns width bs)) (kept_rows p width bs)
  kept_rows-are_rows =
      subst (λ (rows : List (List ℕ)). AreRows p (length (kept_columns width bs)) rows) (sym rows-mapped)
      (AreRows-map p width (length (kept_columns width bs)) kept_entries (unit_rows width) kept_entries-row
      (AreRows-unit_rows p width (numbers_from 1 width) some))

  -- a row is carried to the kept entries of its representative
  pub carried-kept : (x : List ℕ) → IsRow p width x
      → carried p (length (kept_columns width bs)) (kept_rows p width bs) x ≡ entries_at (kept_columns width bs) (reduce_by p bs x)
  carried-kept x row =
      ap (combine p (length (kept_columns width bs)) x) rows-mapped
      ∙ sym (combine-linear p width (length (kept_columns width bs)) kept_entries (omega arith) kept_entries-linear x (unit_rows width)
      (AreRows-unit_rows p width (numbers_from 1 width) some))
      ∙ ap kept_entries (combine-unit_rows p width x (omega arith) row)

  -- a representative whose kept entries are 0 is zero
  kept_zero : (x : List ℕ) → IsRow p width x → kept_entries x ≡ zeros (length (kept_columns width bs)) → reduce_by p bs x ≡ zeros width
  kept_zero x row e =
      let y : List ℕ = reduce_by p bs x in
      let r = IsRepresentative-reduce_by p width some bs x reduced row in
      let wide : length (reduce_by p bs x) ≡ width = r.fits.count in
      let entry : (i : ℕ) → i < length (reduce_by p bs x) → get_or (reduce_by p bs x) i 0 ≡ 0 =
      λ i l.
      let same : suc i - 1 ≡ i = omega arith in
      ap (λ (j : ℕ). get_or (reduce_by p bs x) j 0) (sym same)
      ∙ ⊎_elim (λ pivot. ZeroAtPivots-at y bs (suc i) r.zero pivot)
      (λ none.
      entry-zero (kept_columns width bs) y (suc i) e
      (contains_kept width bs (suc i) (record { first = omega arith; last = omega arith; no_pivot = none })))
      (pivot_or_not (suc i) bs) in
      IsZeroRow-is_zeros (reduce_by p bs x) (IsZeroRow-from_entries (reduce_by p bs x) entry) ∙ ap zeros wide

  -- a row is carried to zero exactly where it is in the span
  pub carried-zero : (x : List ℕ) → IsRow p width x
      → (carried p (length (kept_columns width bs)) (kept_rows p width bs) x ≡ zeros (length (kept_columns width bs)))
      ↔ InSpan p width (rows_of bs) x
  carried-zero x row =
      let r = IsRepresentative-reduce_by p width some bs x reduced row in (
        λ e. InSpan-from_representative p width some bs x (reduce_by p bs x) reduced row r (kept_zero x row (sym (carried-kept x row) ∙ e)),
        λ h.
            carried-kept x row
            ∙ ap (entries_at (kept_columns width bs)) (representative-zero p width some bs x (reduce_by p bs x) reduced row r h)
            ∙ entries_at-zeros (kept_columns width bs) width,
      )
