-- What becomes of the tails modulo a reduced basis: a kept tail becomes the tail of its place, a tail becomes a combination
-- of kept tails up to itself, and each row over the kept tails comes from a row that is 0 at every pivot.
use Rattle.std.proofs.Common.{◌≡◌, ◌≢◌, ℕ, suc, ◌+◌, ◌<◌, ◌≤◌, List, [], length, map, get_or, ⊎_elim, ap, sym, ◌∙◌, subst, arith}
use Rattle.std.proofs.lemmas.Bool.{cases_eq, cases_lt}
use Rattle.std.proofs.lemmas.Grind.{same_number_lists}
use Rattle.std.proofs.lemmas.List.{length-map, get_or-map, same_lists}
use Rattle.std.proofs.lemmas.List.Kept.{AllPairs-from_increasing}
use Rattle.pq_base.specs.Canonical.{numbers_from}
use Rattle.fp_rows.specs.Rows.{IsRow}
use Rattle.fp_rows.specs.Row.{at_column}
use Rattle.fp_echelon.specs.Span.{combine}
use Rattle.fp_echelon.specs.Reduced.{BasisRow, IsPivot, ZeroAtPivots, IsReduced}
use Rattle.fp_echelon.specs.Reduction.{reduce_by}
use Rattle.fp_echelon.proofs.SpanLaws.{IsRow-combine}
use Rattle.fp_echelon.proofs.ReductionLaws.{AreRows-reduced, IsRow-reduce_by, ZeroAtPivots-reduce_by}
use Rattle.fp_echelon.proofs.UniqueBasis.{found, ZeroAtPivots-from}
use Rattle.fp_echelon.proofs.ReduceMap.{reduce_by-fixed, reduce_by-zero_after}
use Rattle.pc_presentation.specs.Pcp.{unit_row}
use Rattle.cover_quotient.specs.Carried.{carried}
use Rattle.cover_quotient.specs.Kept.{kept_columns, entries_at, kept_rows}
use Rattle.cover_quotient.proofs.carried_rows.CarriedRows.{combine-linear}
use Rattle.cover_quotient.proofs.carried_rows.UnitRows.{unit_rows, IsRow-unit_row, AreRows-unit_rows, unit_row-one, unit_row-other}
use Rattle.cover_quotient.proofs.carried_rows.UnitRows.{at_column-unit_row, at_column-unit_row_other, combine-unit_rows}
use Rattle.pq_base.proofs.NumberLists.{length-numbers_from, get_or-numbers_from}
use Rattle.pc_presentation.proofs.rows.TailRowLaws.{length-unit_row}
use Rattle.cover_quotient.proofs.kept_tails.KeptColumns.{kept_at, kept_columns_rise}
use Rattle.cover_quotient.proofs.kept_tails.KeptRows.{length-entries_at, kept_entries, kept_entries-linear, carried-kept}

-- a row of the first width for a row of the second
pub record IsLift (p width : ℕ) (bs : List BasisRow) (y x : List ℕ) : Type 0 where
  pub row : IsRow p width x
  pub zero : ZeroAtPivots x bs
  pub same : carried p (length (kept_columns width bs)) (kept_rows p width bs) x ≡ y

module _ (p width : ℕ) (some : 1 < p) (bs : List BasisRow) (reduced : IsReduced p width bs) where
  abbrev K : List ℕ
  K = kept_columns width bs

  -- kept columns at two places are two columns
  kept_apart : (i j : ℕ) → i < length K → j < length K → i ≢ j → get_or K i 0 ≢ get_or K j 0
  kept_apart i j l m ne e =
      let pairs = AllPairs-from_increasing (kept_columns width bs) (kept_columns_rise width bs) in
      ⊎_elim (λ before. let h = pairs i j 0 before m in omega arith)
      (λ not_before. let h = pairs j i 0 (omega arith) l in omega arith) (cases_lt i j)

  pub pivot-first : (d : ℕ) → IsPivot d bs → 1 ≤ d
  pivot-first d h =
      let b = found p width some d bs reduced h in
      let at = b.at in
      let first = b.pivot_row.last.column.first in
      omega arith

  -- the unit row of a kept column is its own representative
  unit-zero_at_pivots : (c : ℕ) → (IsPivot c bs → ⊥) → ZeroAtPivots (unit_row width c) bs
  unit-zero_at_pivots c none =
      ZeroAtPivots-from (unit_row width c) bs
      (λ d pivot. at_column-unit_row_other width c d (pivot-first d pivot) (λ e. none (subst (λ (n : ℕ). IsPivot n bs) (sym e) pivot)))

  entries-of_unit : (i : ℕ) → i < length K → entries_at K (unit_row width (get_or K i 0)) ≡ unit_row (length K) (suc i)
  entries-of_unit i l =
      let c : ℕ = get_or (kept_columns width bs) i 0 in
      let x : List ℕ = unit_row width (get_or (kept_columns width bs) i 0) in
      let long : length (entries_at K x) ≡ length K = length-entries_at K x in
      let at = kept_at width bs i l in
      let entry : (k : ℕ) → k < length (entries_at K x) → get_or (entries_at K x) k 0 ≡ get_or (unit_row (length K) (suc i)) k 0 =
      λ k m.
      let within : k < length K = omega arith in
      get_or-map (at_column x) K k 0 0 within
      ∙ ⊎_elim
      (λ same.
      ap (λ (j : ℕ). at_column x (get_or (kept_columns width bs) j 0)) same ∙ at_column-unit_row width c at.first at.last
      ∙ sym (ap (λ (j : ℕ). get_or (unit_row (length (kept_columns width bs)) (suc i)) j 0) same ∙ unit_row-one (length K) i l))
      (λ ne.
      at_column-unit_row_other width c (get_or K k 0) (kept_at width bs k within).first (kept_apart i k l within (λ e. ne (sym e)))
      ∙ sym (unit_row-other (length K) (suc i) k (λ e. ne (omega arith))))
      (cases_eq k i) in
      same_number_lists (entries_at K x) (unit_row (length K) (suc i)) (long ∙ sym (length-unit_row (length K) (suc i))) entry

  kept_entries-unit : (i : ℕ) → i < length K
      → kept_entries p width some bs reduced (unit_row width (get_or K i 0)) ≡ unit_row (length K) (suc i)
  kept_entries-unit i l =
      let c : ℕ = get_or (kept_columns width bs) i 0 in
      ap (entries_at K) (reduce_by-fixed p width some bs (unit_row width c) reduced (IsRow-unit_row p width c some)
      (unit-zero_at_pivots c (kept_at width bs i l).no_pivot))
      ∙ entries-of_unit i l

  -- a kept tail becomes the tail of its place
  pub carried-unit : (i : ℕ) → i < length (kept_columns width bs)
      → carried p (length (kept_columns width bs)) (kept_rows p width bs) (unit_row width (get_or (kept_columns width bs) i 0))
      ≡ unit_row (length (kept_columns width bs)) (suc i)
  carried-unit i l =
      let c : ℕ = get_or (kept_columns width bs) i 0 in
      carried-kept p width some bs reduced (unit_row width c) (IsRow-unit_row p width c some) ∙ kept_entries-unit i l

  -- no tail becomes a combination with a later kept tail
  pub carried-shape : (t i : ℕ) → i < length (kept_columns width bs)
      → get_or (carried p (length (kept_columns width bs)) (kept_rows p width bs) (unit_row width t)) i 0 ≢ 0
      → get_or (kept_columns width bs) i 0 ≤ t
  carried-shape t i l nonzero =
      let x : List ℕ = unit_row width t in
      let row = IsRow-unit_row p width t some in
      ⊎_elim
      (λ after.
      absurd (nonzero
      (ap (λ (y : List ℕ). get_or y i 0) (carried-kept p width some bs reduced x row)
      ∙ get_or-map (at_column (reduce_by p bs x)) K i 0 0 l
      ∙ reduce_by-zero_after p width some bs x t reduced row
      (λ d later. at_column-unit_row_other width t d (omega arith) (λ e. omega arith)) (get_or K i 0) after)))
      (λ within. within) (cases_lt t (get_or K i 0))

  -- the unit rows of the kept columns are taken to the unit rows
  units-mapped : map (kept_entries p width some bs reduced) (map (unit_row width) K) ≡ unit_rows (length K)
  units-mapped =
      let s : ℕ = length (kept_columns width bs) in
      let inner : length (map (unit_row width) K) ≡ length K = length-map K (unit_row width) in
      let long : length (map (kept_entries p width some bs reduced) (map (unit_row width) K)) ≡ length K =
      length-map (map (unit_row width) K) (kept_entries p width some bs reduced) ∙ inner in
      let numbers : length (numbers_from 1 (length K)) ≡ length K = length-numbers_from 1 (length K) in
      let long' : length (unit_rows (length K)) ≡ length K = length-map (numbers_from 1 (length K)) (unit_row (length K)) ∙ numbers in
      same_lists (map (kept_entries p width some bs reduced) (map (unit_row width) K)) (unit_rows (length K)) (long ∙ sym long')
      (λ k d m.
      let within : k < length K = omega arith in
      let next : 1 + k ≡ suc k = omega arith in
      get_or-map (kept_entries p width some bs reduced) (map (unit_row width) K) k [] d (omega arith)
      ∙ ap (kept_entries p width some bs reduced) (get_or-map (unit_row width) K k 0 [] within)
      ∙ kept_entries-unit k within
      ∙ sym (get_or-map (unit_row s) (numbers_from 1 s) k 0 d (omega arith)
      ∙ ap (unit_row s) (get_or-numbers_from 1 s k 0 within ∙ next)))

  -- each row over the kept tails comes from a row that is 0 at every pivot
  pub carried-onto : (y : List ℕ) → IsRow p (length (kept_columns width bs)) y → (x : List ℕ) × IsLift p width bs y x
  carried-onto y h =
      let positive : 0 < p = omega arith in
      let units : List (List ℕ) = map (unit_row width) (kept_columns width bs) in
      let are = AreRows-unit_rows p width (kept_columns width bs) some in
      let z : List ℕ = combine p width y units in
      let row = IsRow-combine p width y units positive are in
      let x : List ℕ = reduce_by p bs z in
      let row' = IsRow-reduce_by p width some bs z (AreRows-reduced p width bs reduced) row in
      let none = ZeroAtPivots-reduce_by p width some bs z reduced row in (
        x,
        record {
          row = row';
          zero = none;
          same =
              carried-kept p width some bs reduced x row'
              ∙ ap (entries_at K) (reduce_by-fixed p width some bs x reduced row' none)
              ∙ combine-linear p width (length K) (kept_entries p width some bs reduced) positive
              (kept_entries-linear p width some bs reduced) y units are
              ∙ ap (combine p (length K) y) units-mapped
              ∙ combine-unit_rows p (length K) y positive h;
        },
      )
